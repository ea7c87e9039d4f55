pub mod Traces
pub mod Fitting
pub mod Texts
pub mod Laws
