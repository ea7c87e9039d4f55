pub mod Places
pub mod Lines
pub mod Notes
pub mod Laws
