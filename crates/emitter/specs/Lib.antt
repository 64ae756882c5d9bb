pub mod Put
pub mod Parts
