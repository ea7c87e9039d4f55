pub mod Statuses
pub mod StatusFlags
