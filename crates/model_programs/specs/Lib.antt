pub mod Values
pub mod Answers
pub mod Exchanges
pub mod Scripts
pub mod Dialogue
pub mod Evaluation
pub mod Elisions
