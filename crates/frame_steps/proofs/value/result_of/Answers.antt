use Rattle.std.proofs.Common.{rules}
use Rattle.frame_steps.proofs.value.result_of.Goals as goal

pub returns-in-Less : goal.returns-in-Less
returns-in-Less c = search rules

pub returns-in-Product : goal.returns-in-Product
returns-in-Product c = search rules
