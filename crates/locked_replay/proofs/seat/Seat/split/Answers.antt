use Rattle.std.proofs.Common.{arith}
use Rattle.std.proofs.lemmas.Grind.{common_steps}
use Rattle.locked_replay.proofs.seat.Seat.split.Goals as goal

pub invariant_of-self : goal.invariant_of-self
invariant_of-self g c = grind (arith, common_steps)

pub returns-clause-left : goal.returns-clause-left
returns-clause-left g c = grind (arith, common_steps)
