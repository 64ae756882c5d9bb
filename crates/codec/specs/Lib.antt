pub mod Writes
pub mod Unread
