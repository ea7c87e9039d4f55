pub mod GateWords
pub mod Digits
