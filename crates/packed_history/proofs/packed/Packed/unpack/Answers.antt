use Rattle.packed_history.specs.Packing.{unpacked}
use Rattle.packed_history.proofs.Packing.{plain-parts}
use Rattle.packed_history.proofs.packed.Packed.unpack.Goals as goal

pub returns : goal.returns
unfolding unpacked
returns c =
    plain-parts (unpacked c.args.self) c.number.result c.strand.result c.line.result c.unpack_parts-act.result.0 c.unpack_parts-act.result.1
    c.number.ensures c.strand.ensures c.line.ensures c.unpack_parts-act.ensures.act c.unpack_parts-act.ensures.answer
