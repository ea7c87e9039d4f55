use Rattle.std.proofs.Common.{arith}
use Rattle.std.proofs.lemmas.Grind.{common_steps}
use Rattle.frame_steps.proofs.value.cell_of.Goals as goal

pub returns-in-Element : goal.returns-in-Element
returns-in-Element c = grind (arith, common_steps)
