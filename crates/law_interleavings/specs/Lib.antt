pub mod Fronts
pub mod Traces
pub mod Asked
pub mod Laws
pub mod Examples
