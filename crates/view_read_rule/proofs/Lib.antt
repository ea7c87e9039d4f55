pub mod Firsts
pub mod Granted
