pub mod Pieces
pub mod Reading
pub mod Standing
pub mod Adding
pub mod Claiming
pub mod Playing
