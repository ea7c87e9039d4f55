use Rattle.std.proofs.Common.{arith}
use Rattle.std.proofs.lemmas.Grind.{common_steps}
use Rattle.race_gate.proofs.judging.is_end.Goals as goal

pub returns-in-Finished : goal.returns-in-Finished
returns-in-Finished g = grind (arith, common_steps)
