pub mod Address
pub mod Extremes
pub mod Sorted
pub mod Intervals
pub mod Blocks
pub mod Dags
pub mod Laws
