use Rattle.std.proofs.Common.{refl}
use Rattle.frame_steps.proofs.request.line_of.Goals as goal

pub returns-in-Call : goal.returns-in-Call
returns-in-Call c = rw c.in-Call.is refl
