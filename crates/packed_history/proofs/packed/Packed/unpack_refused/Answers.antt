use Rattle.std.proofs.Common.{◌∙◌, sym}
use Rattle.packed_history.specs.Packing.{unpacked, tag_in}
use Rattle.packed_history.proofs.Packing.{refused-parts, refused-asked}
use Rattle.packed_history.proofs.packed.Packed.unpack_refused.Goals as goal

pub returns : goal.returns
unfolding unpacked
returns c =
    let self = c.args.self in
    refused-parts (unpacked self) c.args.refusal c.number.result c.strand.result c.line.result c.act_of.result c.answer_of.result
    c.number.ensures c.strand.ensures c.line.ensures
    (c.act_of.ensures ∙ sym (refused-asked (tag_in self.head) self.first self.second c.args.refusal.value c.requires)) c.answer_of.ensures
