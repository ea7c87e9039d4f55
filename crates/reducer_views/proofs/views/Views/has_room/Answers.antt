use Rattle.std.proofs.Common.{refl}
use Rattle.reducer_views.proofs.views.Views.has_room.Goals as goal

pub returns : goal.returns
returns g c = rw (← c.self.view_is) refl
