use Rattle.std.proofs.Common.{arith, rules}
use Rattle.std.proofs.lemmas.Grind.{common_steps}
use Rattle.locked_replay.proofs.locked.CountedGate.judge.Goals as goal

pub invariant_of-self-2 : goal.invariant_of-self-2
invariant_of-self-2 g c = grind (arith, common_steps)

pub invariant_of-seat-2 : goal.invariant_of-seat-2
invariant_of-seat-2 g c = grind (arith, common_steps)

pub returns-clause-replies : goal.returns-clause-replies
returns-clause-replies g c = search rules
