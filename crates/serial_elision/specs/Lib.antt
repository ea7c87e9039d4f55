pub mod Evaluation
pub mod States
pub mod Statements
