use Rattle.std.proofs.Common.{take}
use Rattle.race_pairs.specs.Onward.{IsLeast}
use Rattle.race_pairs.proofs.onward.toward.Given as goal

abbrev pub invariant-loop-number : goal.invariant-loop-number
invariant-loop-number l = IsLeast l.spawn (take l.number-index l.chain) l.least
