use Rattle.std.proofs.Common.{arith}
use Rattle.sp_labels.proofs.Packed.{length-unpacked, standing-packed}
use Rattle.sp_labels.proofs.record.set_standing.Goals as goal

pub index_mut-requires : goal.index_mut-requires
index_mut-requires g c = omega (arith, c.requires, length-unpacked c.args.records.now.items, c.args.records.now.ok)

pub returns-clause-put : goal.returns-clause-put
returns-clause-put g c = standing-packed c.args.records.now.items c.args.strand c.index_mut.result.now c.args.standing c.requires c.index_mut.ensures.value
