pub mod Signed
pub mod Operands
pub mod Words
