pub mod OneSource
pub mod Performed
