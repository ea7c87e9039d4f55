use Rattle.reducer_views.proofs.Slots.{place_below, row_room}
use Rattle.reducer_views.proofs.touched.gather.Goals as goal

pub gather_in-requires-clause-room : goal.gather_in-requires-clause-room
gather_in-requires-clause-room g c = row_room _ _ c.requires

pub gather_in-requires-clause-place : goal.gather_in-requires-clause-place
gather_in-requires-clause-place g c = place_below _
