pub mod Shorts
pub mod Packing
pub mod Refusals
pub mod Lists
pub mod Entries
