pub mod Alike
pub mod Added
pub mod Parallel
pub mod Witnesses
pub mod SameKinds
pub mod Later
pub mod Remembers
