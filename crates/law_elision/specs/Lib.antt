pub mod Expansions
pub mod Placed
pub mod Laws
