use Rattle.reducer_views.proofs.KeptLists.{touch_kept}
use Rattle.reducer_views.proofs.pieces.Piece.touch.Goals as goal

pub returns-in-Touched : goal.returns-in-Touched
returns-in-Touched g c = touch_kept _ _ _ _ _ _ c.in-Touched.is c.deref.ensures c.find.ensures
