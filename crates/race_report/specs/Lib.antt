pub mod Refusals
pub mod RefusalValues
pub mod ReportText
pub mod Conditions
pub mod Laws
