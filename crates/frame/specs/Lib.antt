pub mod Forms
pub mod Pieces
pub mod Named
pub mod Codes
pub mod Steps
pub mod Opens
pub mod Closes
