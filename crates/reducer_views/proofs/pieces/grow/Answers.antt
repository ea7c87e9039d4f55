use Rattle.std.proofs.Common.{refl}
use Rattle.reducer_views.proofs.Grown.{pieces_first, pieces_later, next_number, next_kept_is, join_kept_is}
use Rattle.reducer_views.proofs.pieces.grow.Goals as goal

pub returns-then-first : goal.returns-then-first
returns-then-first g c =
    pieces_first _ _ _ _ _ _ _ _ _ c.push_reserved.ensures.items c.push_reserved-2.ensures.items c.push_reserved-then-first.ensures.items c.if-first.true refl
    (next_kept_is c.args.pieces.now.items _ c.requires.next_is_new) (join_kept_is c.args.pieces.now.items _ _ c.requires.next_is_new)

pub returns : goal.returns
returns g c =
    pieces_later _ _ _ _ _ _ _ _ _ _ c.push_reserved.ensures.items c.push_reserved-2.ensures.items c.if-first.false c.requires.home_known (next_number c.args.pieces.now.items _ c.requires.next_is_new) refl
    (next_kept_is c.args.pieces.now.items _ c.requires.next_is_new) c.index_mut.ensures.value c.set_later.ensures
