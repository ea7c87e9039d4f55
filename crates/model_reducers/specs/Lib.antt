pub mod Limits
pub mod Items
pub mod Steps
pub mod Entries
pub mod Views
pub mod GetValues
pub mod Products
