pub mod Rooms
pub mod Builders
