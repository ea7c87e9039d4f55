-- In these files H and K are histories, R is the whole one, e is an entry and l that a history is legal; T are the notes of the whole, and mine
-- those of a part; h is a control history, s the strand that makes an event; a split has the child c, the next n and the join j; x, y and z are
-- deeds, zs and ws what a frame spoke.
pub mod Control
pub mod Fronts
pub mod Waiting
pub mod Swaps
pub mod Beginnings
pub mod Spoken
pub mod Traces
pub mod Walks
pub mod Parts
pub mod Comparisons
pub mod Races
pub mod Cells
pub mod Meetings
pub mod AtPlaces
pub mod SameAnswers
pub mod ReadDeeds
pub mod ReducerDeeds
pub mod GetItems
pub mod ReadAnswers
pub mod Wholes
pub mod Induction
pub mod Interleavings
pub mod Examples
