pub mod Stored
pub mod Tables
pub mod Events
pub mod Queries
