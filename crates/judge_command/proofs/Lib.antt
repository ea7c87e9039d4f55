mod Causes
mod Meeting
