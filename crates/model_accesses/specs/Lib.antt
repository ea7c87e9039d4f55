pub mod Limits
pub mod Table
pub mod Asking
pub mod Accesses
pub mod Reads
