mod Building
mod Ranges
mod Simple
