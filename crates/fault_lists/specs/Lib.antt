pub mod LineNames
pub mod Doubts
pub mod FaultLists
pub mod Messages
