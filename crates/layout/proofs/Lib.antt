pub mod Placing
pub mod Puts
pub mod Brings
pub mod Lines
pub mod Areas
