pub mod Limits
pub mod Items
pub mod Lists
