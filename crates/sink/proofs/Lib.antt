pub mod Strays
pub mod Items
