pub mod Turns
pub mod Spawns
pub mod Frames
pub mod Accesses
pub mod Reads
pub mod Told
pub mod Laws
pub mod Examples
