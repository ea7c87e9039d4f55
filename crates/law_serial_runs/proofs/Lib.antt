-- Statements name things in whole words. In the clauses under them h is a history and l that it is legal, r that it is serial, e an event and s
-- the strand that makes it; a split has the child c, the next n and the join j, and w is what is known of it; u, v, x and y are strands.
pub mod Stands
pub mod Stays
pub mod Runs
pub mod Steps
pub mod Passed
pub mod Ends
pub mod Earlier
pub mod Children
pub mod Gate
pub mod ReadGate
pub mod Keeping
pub mod Blocks
pub mod Frames
pub mod Told
pub mod Examples
