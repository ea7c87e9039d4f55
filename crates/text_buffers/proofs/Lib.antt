pub mod Builders
