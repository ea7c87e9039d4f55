use Rattle.reducer_views.proofs.KeptLists.{sets_table}
use Rattle.reducer_views.proofs.pieces.Piece.set.Goals as goal

pub returns : goal.returns
returns g c = sets_table _ _ _ _ _ _ _ c.take_slots-slots.ensures.table c.take_slots-slots.ensures.rest c.set.ensures c.put_slots.ensures
