pub mod Holding
pub mod Passed
pub mod Faults
pub mod Begun
pub mod Marking
