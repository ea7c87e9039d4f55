use Rattle.std.proofs.Common.{arith}
use Rattle.packed_history.specs.Packing.{unpacked, tag_in}
use Rattle.packed_history.proofs.Packing.{long-index}
use Rattle.packed_history.proofs.packed.Packed.index.Goals as goal

pub returns : goal.returns
unfolding unpacked
returns c =
    let self = c.args.self in
    omega (arith, c.from.ensures, c.from-2.ensures, long-index (tag_in self.head) self.first self.second c.requires)
