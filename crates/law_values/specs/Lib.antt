pub mod Items
pub mod Accesses
pub mod Logs
pub mod Views
pub mod GetValues
pub mod Examples
pub mod Laws
