pub mod Walks
pub mod CodeSteps
pub mod Rows
pub mod AcceptedSheets
pub mod Examples
