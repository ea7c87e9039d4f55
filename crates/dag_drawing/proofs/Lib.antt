pub mod EdgesByKind
pub mod EdgesOnce
pub mod Places
pub mod Followed
pub mod Drawn
pub mod Pushed
pub mod FirstPlaces
pub mod Loops
