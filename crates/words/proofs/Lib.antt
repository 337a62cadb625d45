pub mod Adding
pub mod Pieces
