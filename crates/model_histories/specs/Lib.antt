pub mod Entries
pub mod Shapes
pub mod Legal
pub mod Extensions
pub mod States
pub mod Faults
pub mod Replies
pub mod Admission
