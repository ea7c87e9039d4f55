-- In these files h is a history or the items of one, l that it is legal, e an event, s the strand that makes it and p the last put; a split has the
-- child c, the next n and the join j; f gives the logs of strands; x, y and z are strands, u and w entries.
pub mod Lists
pub mod Steps
pub mod Sorted
pub mod Since
pub mod Anchor
pub mod Law
pub mod Products
pub mod Values
pub mod Stays
pub mod Accesses
pub mod Examples
