pub mod Frames
pub mod Runs
pub mod Serial
pub mod Coordinates
pub mod Laws
