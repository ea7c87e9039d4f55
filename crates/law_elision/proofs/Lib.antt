-- Statements name things in whole words. In the clauses under them h is a history, l or legal that it is legal, s a strand, c, n and j the child, the
-- next and the join of a split; x, y and z are entries with their places or strands; p and q say that something stands in a list, e, f, k and r what is
-- known of it, d is a dialogue, i what was inserted.
pub mod Expansions
pub mod Frames
pub mod Placements
pub mod Trees
pub mod Wholes
pub mod Begun
pub mod Runs
pub mod Insertions
pub mod Cells
pub mod Stores
pub mod Elided
pub mod Roles
pub mod Views
pub mod Gets
pub mod Evaluations
pub mod Meeting
