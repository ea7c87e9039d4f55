pub mod Reads
pub mod Verdicts
pub mod Laws
