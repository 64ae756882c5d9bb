pub mod Constants
pub mod Adjusts
pub mod Probing
