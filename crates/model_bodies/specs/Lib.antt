pub mod Codes
pub mod Trees
pub mod Bodies
pub mod Sound
pub mod Lines
