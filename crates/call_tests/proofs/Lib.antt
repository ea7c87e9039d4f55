pub mod BranchExamples
pub mod ReadExamples
mod Refusals
