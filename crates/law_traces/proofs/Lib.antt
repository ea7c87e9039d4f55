-- In the clauses under the statements H is a history's entries, e an entry, l that they are legal and j that they are judged; s and u are strands,
-- a and b addresses, k and m kinds, c and d cells.
pub mod Histories
pub mod Locations
pub mod Reducers
pub mod Sets
pub mod Controls
pub mod Omissions
pub mod Moves
pub mod Functions
pub mod Pairs
pub mod Moments
pub mod Epochs
pub mod Behind
pub mod Renamings
pub mod Spawns
pub mod CleanTraces
pub mod Judging
pub mod Calls
pub mod PairExamples
pub mod Examples
