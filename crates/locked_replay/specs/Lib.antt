pub mod Receipts
pub mod Logs
pub mod Strange
pub mod Faults
pub mod Laws
pub mod Asking
pub mod Finishing
