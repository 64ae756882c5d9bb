pub mod Limits
pub mod Refusals
pub mod Plain
pub mod Stands
pub mod Answers
pub mod Claims
