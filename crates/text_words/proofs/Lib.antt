pub mod Pieces
pub mod WordsOfLine
pub mod IndexLemmas
pub mod Decided
pub mod Numbers
pub mod SlotLemmas
