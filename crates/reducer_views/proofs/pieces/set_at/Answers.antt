use borrow.Author.Rules.{scaled_Fits}
use Rattle.std.proofs.Common.{rules}
use Rattle.reducer_views.proofs.KeptLists.{sets_at}
use Rattle.reducer_views.proofs.pieces.set_at.Goals as goal

pub offset_bounds-pieces-home : goal.offset_bounds-pieces-home
offset_bounds-pieces-home g c = scaled_Fits _ _ _ c.requires.home_known (search rules)

pub bounds-pieces-home : goal.bounds-pieces-home
bounds-pieces-home g c = c.requires.home_known

pub returns : goal.returns
returns g c = sets_at _ _ _ _ _ _ c.requires.home_known c.set.ensures
