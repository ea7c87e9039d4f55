pub mod RunStatuses
pub mod CleanReports
pub mod RunCauses
mod Answering
mod DrawingCauses
mod ElisionCauses
pub mod ExplanationCauses
mod Pairs
mod ReplayCauses
mod ShortNames
mod Sorted
mod KeptRuns
mod Recorded
pub mod TracedCauses
mod CleanSoFar
mod DigestedSoFar
mod DigestStatuses
mod Unnoted
mod Devices
mod Ends
mod ReadPrograms
mod Taking
mod TraceTexts
