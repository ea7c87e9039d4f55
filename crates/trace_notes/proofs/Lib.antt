pub mod Scans
pub mod Marks
pub mod Kept
pub mod Formed
