pub mod Declaring
pub mod Reaching
pub mod Putting
pub mod Finding
pub mod Telling
