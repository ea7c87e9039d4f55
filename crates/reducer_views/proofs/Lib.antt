-- Statements name things in whole words. In the clauses under them h is a history and l that it is legal, e an event and s the strand that makes it;
-- a split has the child c, the next n and the join j, and w is what is known of it; k is what held before, i and m are numbers of children or strands,
-- q and r reducers, v a view, x and y strands.
pub mod Associative
pub mod Touches
pub mod Slots
pub mod Listed
pub mod KeptLists
pub mod Blocks
pub mod Currents
pub mod Grown
pub mod Following
pub mod Gets
pub mod First
