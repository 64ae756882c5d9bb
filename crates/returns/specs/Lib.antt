pub mod Premises
pub mod Returns
pub mod Trees
pub mod Notes
pub mod Example
pub mod Witnesses
