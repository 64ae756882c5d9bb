pub mod Limits
pub mod Bit
pub mod Items
pub mod Marked
