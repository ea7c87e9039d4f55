pub mod Adding
pub mod Lost
pub mod Messages
pub mod Pieces
