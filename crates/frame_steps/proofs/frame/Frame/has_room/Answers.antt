use Rattle.std.proofs.Common.{refl}
use Rattle.frame_steps.proofs.frame.Frame.has_room.Goals as goal

pub returns : goal.returns
returns g c = rw (← c.self.view_is) refl
