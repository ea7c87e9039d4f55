pub mod Products
pub mod Touched
pub mod Pieces
pub mod Homes
pub mod Held
