pub mod Putting
pub mod SlotLaws
pub mod Sizes
