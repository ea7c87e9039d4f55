pub mod Commands
pub mod Asked
pub mod Jobs
pub mod Names
pub mod Usages
