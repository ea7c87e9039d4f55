pub mod Buffering
pub mod Bytes
pub mod Failing
mod Reading
mod KeptTexts
pub mod TakenLines
pub mod Telling
