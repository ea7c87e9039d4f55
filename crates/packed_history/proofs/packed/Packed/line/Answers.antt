use Rattle.std.proofs.Common.{refl}
use Rattle.packed_history.specs.Packing.{unpacked}
use Rattle.packed_history.proofs.packed.Packed.line.Goals as goal

pub returns : goal.returns
unfolding unpacked
returns c = refl
