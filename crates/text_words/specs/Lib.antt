pub mod Text
pub mod Limits
pub mod Values
pub mod Causes
pub mod Names
pub mod Declarations
pub mod Index
pub mod Slots
