pub mod Twos
pub mod Fields
pub mod Rows
pub mod Back
pub mod Right
pub mod Laws
