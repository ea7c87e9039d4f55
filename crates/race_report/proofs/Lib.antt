pub mod Reversed
pub mod Floats
pub mod CleanRuns
pub mod JudgedRuns
pub mod Schedules
pub mod RefusalValues
pub mod ItemTexts
pub mod ReportTexts
