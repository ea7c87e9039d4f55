use Rattle.reducer_views.proofs.KeptLists.{gathers_table}
use Rattle.reducer_views.proofs.pieces.Piece.gather.Goals as goal

pub returns-in-Touched : goal.returns-in-Touched
returns-in-Touched g c = gathers_table _ _ _ _ _ _ _ c.in-Touched.is c.deref_mut.ensures.value c.gather.ensures.touches c.gather.ensures.later
