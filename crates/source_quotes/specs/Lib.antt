pub mod Lines
pub mod Quotes
pub mod Parts
pub mod Mistakes
pub mod FaultTexts
