use Rattle.std.proofs.Common.{◌<◌, ◌∙◌, length, subst, sym}
use Rattle.std.proofs.lemmas.Bool.{false≢true}
use Rattle.packed_history.specs.Lists.{Listed}
use Rattle.packed_history.proofs.Kept.{short_same}
use Rattle.packed_history.proofs.list.Receipts.is_plainly.Goals as goal

pub returns-then-is_short : goal.returns-then-is_short
returns-then-is_short g c told =
    let ours = c.self.inside in
    let theirs = c.other.inside in
    rw (← c.self.view_is, ← c.other.view_is)
    (short_same ours.longs.items theirs.longs.items ours.refusals.items theirs.refusals.items ours.shorts.items theirs.shorts.items
    c.args.at c.args.place c.index-short.result.now c.index.result.now
    (subst (λ (list : Listed). c.args.at < length list.items) (sym c.self.view_is) c.requires.at) c.index-short.ensures
    (subst (λ (list : Listed). c.args.place < length list.items) (sym c.other.view_is) c.requires.place) c.index.ensures
    (sym c.is_short.ensures ∙ c.if-is_short.true) (c.is_same.ensures.0 told))

pub returns-else-is_short : goal.returns-else-is_short
returns-else-is_short g c told = absurd (false≢true (sym c.if-is_short.false ∙ told))
