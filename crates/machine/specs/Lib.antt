pub mod Machine
pub mod Cores
