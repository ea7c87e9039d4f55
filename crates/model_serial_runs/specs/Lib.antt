pub mod Conflicts
pub mod Accesses
pub mod Current
pub mod ReducerReads
