pub mod Telling
pub mod Gathering
pub mod Merging
mod Placing
mod TraceAdding
pub mod FindingTexts
mod Functions
mod Helping
mod Named
mod OrderedGroups
mod OrderedFindings
mod FoundLeads
mod FoundGrouping
mod Numbering
