use Rattle.std.proofs.Common.{arith}
use Rattle.std.proofs.lemmas.Grind.{common_steps}
use Rattle.serial_elision.proofs.elision.Elision.update.Goals as goal

pub returns-clause-state : goal.returns-clause-state
returns-clause-state g c = grind (arith, common_steps)
