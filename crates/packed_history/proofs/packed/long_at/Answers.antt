use Rattle.std.proofs.Common.{refl, arith}
use Rattle.packed_history.specs.Packing.{unpacked}
use Rattle.packed_history.proofs.packed.long_at.Goals as goal

pub returns-clause-long : goal.returns-clause-long
unfolding unpacked
returns-clause-long c = refl

pub returns-clause-index : goal.returns-clause-index
unfolding unpacked
returns-clause-index c = omega arith
