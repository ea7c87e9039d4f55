mod Telling
mod Listing
mod Relating
pub mod Objects
