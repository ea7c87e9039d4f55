use Rattle.std.proofs.Common.{rules}
use Rattle.frame_steps.proofs.value.value_of.Goals as goal

pub returns-in-Held : goal.returns-in-Held
returns-in-Held c = search rules
