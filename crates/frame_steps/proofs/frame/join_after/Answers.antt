use Rattle.std.proofs.Common.{refl}
use Rattle.frame_steps.proofs.frame.join_after.Goals as goal

pub returns-in-Waits : goal.returns-in-Waits
returns-in-Waits c = rw c.in-Waits.is refl
