use Rattle.reducer_views.proofs.Slots.{place_below, row_room, touches_change}
use Rattle.reducer_views.proofs.touched.set.Goals as goal

pub set_in-requires-clause-room : goal.set_in-requires-clause-room
set_in-requires-clause-room g c = row_room _ _ c.requires

pub set_in-requires-clause-place : goal.set_in-requires-clause-place
set_in-requires-clause-place g c = place_below _

pub returns : goal.returns
returns g c = touches_change _ _ _ _ c.set_in.ensures
