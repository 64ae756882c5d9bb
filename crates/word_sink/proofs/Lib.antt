mod Refused
pub mod Slots
