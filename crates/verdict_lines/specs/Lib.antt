pub mod VerdictText
pub mod RefusedText
pub mod Rooms
pub mod Counted
