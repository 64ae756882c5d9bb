pub mod Good
pub mod Whole
