use Rattle.std.proofs.Common.{rules, arith}
use Rattle.packed_history.specs.Packing.{unpacked}
use Rattle.packed_history.proofs.packed.Packed.is_short.Goals as goal

pub returns : goal.returns
unfolding unpacked
returns c = grind (arith, rules)
