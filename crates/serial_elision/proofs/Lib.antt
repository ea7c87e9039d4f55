pub mod Evaluations
pub mod Elisions
pub mod Soundness
pub mod Reducing
mod Stacks
