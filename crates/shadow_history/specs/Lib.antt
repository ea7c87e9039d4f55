pub mod Accesses
pub mod Witnesses
pub mod Shadow
pub mod Laws
