pub mod Reach
pub mod Declarations
pub mod Warnings
pub mod Messages
