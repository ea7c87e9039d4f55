mod Explaining
mod Hosts
mod Replaying
mod Sources
