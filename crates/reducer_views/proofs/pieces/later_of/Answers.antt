use Rattle.std.proofs.Common.{◌∙◌, sym, ap}
use Rattle.reducer_views.specs.Pieces.{Kept, kept_of}
use Rattle.reducer_views.proofs.KeptLists.{kept_here}
use Rattle.reducer_views.proofs.pieces.later_of.Goals as goal

pub bounds-pieces-strand : goal.bounds-pieces-strand
bounds-pieces-strand g c = c.requires.known

pub returns : goal.returns
returns g c =
    c.later.ensures ∙ (ap (λ piece. (kept_of piece).later) c.index-pieces-strand.is ∙ sym (ap (λ (kept : Kept). kept.later) (kept_here _ _ _ c.requires.known)))
