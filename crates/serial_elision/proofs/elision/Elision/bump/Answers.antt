use Rattle.std.proofs.Common.{arith}
use Rattle.std.proofs.lemmas.Grind.{common_steps}
use Rattle.serial_elision.proofs.elision.Elision.bump.Goals as goal

pub returns : goal.returns
returns g c = grind (arith, common_steps)
