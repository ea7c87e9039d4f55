use borrow.Author.Rules.{scaled_Fits}
use Rattle.std.proofs.Common.{rules}
use Rattle.std.proofs.Math.ListN.{length-set}
use Rattle.reducer_views.proofs.KeptLists.{takes_nothing, takes_over}
use Rattle.reducer_views.proofs.pieces.take_over.Goals as goal

pub bounds-pieces-later : goal.bounds-pieces-later
bounds-pieces-later g c = c.requires.later_known

pub bounds-pieces-home : goal.bounds-pieces-home
bounds-pieces-home g c = rw length-set c.requires.home_known

pub offset_bounds-pieces-later : goal.offset_bounds-pieces-later
offset_bounds-pieces-later g c = scaled_Fits _ _ _ c.requires.later_known (search rules)

pub offset_bounds-pieces-home : goal.offset_bounds-pieces-home
offset_bounds-pieces-home g c = scaled_Fits _ _ _ c.requires.home_known (search rules)

pub returns : goal.returns
returns g c =
    takes_over _ _ _ _ _ _ _ _ _ _ _ c.requires.home_known c.requires.later_known c.requires.apart c.take_slots-taken.ensures.table c.take_slots-taken.ensures.rest
    c.take_slots-slots.ensures.table c.take_slots-slots.ensures.rest c.absorb.ensures c.put_slots.ensures

pub returns-then-is_none : goal.returns-then-is_none
returns-then-is_none g c = takes_nothing _ _ _ _ _ _ c.requires.later_known c.requires.apart c.take_slots-taken.ensures.table c.take_slots-taken.ensures.rest c.if-is_none.ensures
