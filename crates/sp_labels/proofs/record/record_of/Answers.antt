use Rattle.std.proofs.Common.{◌∙◌, arith}
use Rattle.sp_labels.proofs.Packed.{length-unpacked, read-unpacked}
use Rattle.sp_labels.proofs.record.record_of.Goals as goal

pub index-requires : goal.index-requires
index-requires g c = omega (arith, c.requires, length-unpacked c.args.records.now.items, c.args.records.now.ok)

pub returns : goal.returns
returns g c = c.unpack.ensures ∙ read-unpacked c.args.records.now.items c.args.strand c.index.result.now c.requires c.index.ensures
