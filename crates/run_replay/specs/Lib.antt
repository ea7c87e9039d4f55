pub mod Turns
pub mod FrameTables
pub mod Replays
pub mod Slots
pub mod Wraps
