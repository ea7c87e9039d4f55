use Rattle.reducer_views.proofs.pieces.touch_of.Goals as goal

pub bounds-pieces-home : goal.bounds-pieces-home
bounds-pieces-home g c = c.requires.home_known
