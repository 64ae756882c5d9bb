pub mod Slots
pub mod Before
pub mod Lined
