pub mod Order
pub mod Ring
pub mod Items
pub mod Labels
pub mod Places
