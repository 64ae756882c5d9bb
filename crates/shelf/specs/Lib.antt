pub mod Limits
pub mod Slots
pub mod Index
pub mod Listed
