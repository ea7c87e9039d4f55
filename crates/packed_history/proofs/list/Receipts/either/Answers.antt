use Rattle.std.proofs.Common.{◌≡◌, ◌<◌, ◌∙◌, List, get_or, length, slice_get, subst, sym}
use Rattle.model_histories.specs.declared.reply.Receipt.{Receipt}
use Rattle.packed_history.specs.declared.refusal.Refusal.{Refusal}
use Rattle.packed_history.specs.Lists.{Listed}
use Rattle.packed_history.specs.Packing.{unpacked}
use Rattle.packed_history.specs.Refusals.{refused}
use Rattle.packed_history.specs.Shorts.{index_of, plain}
use Rattle.packed_history.proofs.Kept.{read_long, read_refused, read_short}
use Rattle.packed_history.proofs.list.Receipts.either.Goals as goal

pub returns-then-is_short : goal.returns-then-is_short
returns-then-is_short g c =
    let inside = c.self.inside in
    rw (← c.self.view_is)
    (read_short inside.longs.items inside.refusals.items inside.shorts.items c.args.at c.index-short.result.now c.unpack.result
    (subst (λ (list : Listed). c.args.at < length list.items) (sym c.self.view_is) c.requires) c.index-short.ensures
    (sym c.is_short.ensures ∙ c.if-is_short.true) c.unpack.ensures)

pub returns-then-is_long : goal.returns-then-is_long
returns-then-is_long g c =
    let inside = c.self.inside in
    rw (← c.self.view_is)
    (read_long inside.longs.items inside.refusals.items inside.shorts.items c.args.at c.index-short.result.now c.long_of.result
    (subst (λ (list : Listed). c.args.at < length list.items) (sym c.self.view_is) c.requires) c.index-short.ensures
    (sym c.is_short.ensures ∙ c.if-is_short.false) (sym c.is_long.ensures ∙ c.if-is_long.true)
    (subst (λ (longs : List Receipt). c.long_of.result ≡ get_or longs (index_of (unpacked c.index-short.result.now).deed)
    (plain (unpacked c.index-short.result.now))) c.as_slice.ensures.value c.long_of.ensures))

pub returns-else-is_long : goal.returns-else-is_long
returns-else-is_long g c =
    let inside = c.self.inside in
    rw (← c.self.view_is)
    (read_refused inside.longs.items inside.refusals.items inside.shorts.items c.args.at c.index-short.result.now c.refused_in.result
    (subst (λ (list : Listed). c.args.at < length list.items) (sym c.self.view_is) c.requires) c.index-short.ensures
    (sym c.is_short.ensures ∙ c.if-is_short.false) (sym c.is_long.ensures ∙ c.if-is_long.false)
    (subst (λ (refusals : List Refusal). c.refused_in.result ≡ refused (slice_get refusals (index_of (unpacked c.index-short.result.now).deed))
    (unpacked c.index-short.result.now)) c.as_slice-else-is_long.ensures.value c.refused_in.ensures))
