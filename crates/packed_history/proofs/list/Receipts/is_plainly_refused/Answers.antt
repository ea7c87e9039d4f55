use Rattle.std.proofs.Common.{◌≡◌, ◌<◌, length, subst, false, rules, sym, Some, slice_get}
use Rattle.packed_history.specs.Lists.{Listed}
use Rattle.packed_history.specs.Packing.{unpacked}
use Rattle.packed_history.specs.Shorts.{index_of, is_short, is_long}
use Rattle.packed_history.proofs.Kept.{alike_refused, alike_same, refused_left, listed_same, seen_same, stands_at}
use Rattle.packed_history.proofs.list.Receipts.is_plainly_refused.Goals as goal

pub place-requires-2 : goal.place-requires-2
place-requires-2 g c =
    let one = c.index-one.result.now in
    let another = c.index-another.result.now in
    let heads : one.head ≡ another.head = search rules in
    let firsts : one.first ≡ another.first = search rules in
    let not_short : is_short (unpacked one).deed ≡ false = search rules in
    let not_long : is_long (unpacked one).deed ≡ false = search rules in
    alike_refused one another heads firsts (refused_left (unpacked one).deed not_short not_long)

pub returns : goal.returns
returns g c told =
    let one = c.index-one.result.now in
    let another = c.index-another.result.now in
    let ours = c.self.inside in
    let theirs = c.other.inside in
    let heads : one.head ≡ another.head = search rules in
    let firsts : one.first ≡ another.first = search rules in
    let not_short : is_short (unpacked one).deed ≡ false = search rules in
    let not_long : is_long (unpacked one).deed ≡ false = search rules in
    let here : slice_get ours.shorts.items c.args.at ≡ Some one =
    stands_at ours.longs.items ours.refusals.items ours.shorts.items c.args.at one
    (subst (λ (list : Listed). c.args.at < length list.items) (sym c.self.view_is) c.requires.at) c.index-one.ensures in
    let there : slice_get theirs.shorts.items c.args.place ≡ Some another =
    stands_at theirs.longs.items theirs.refusals.items theirs.shorts.items c.args.place another
    (subst (λ (list : Listed). c.args.place < length list.items) (sym c.other.view_is) c.requires.place) c.index-another.ensures in
    let beside = seen_same ours.refusals.items c.as_slice.result.now theirs.refusals.items c.as_slice-2.result.now
    c.place.result (index_of (unpacked one).deed) c.place-2.result (index_of (unpacked another).deed) c.as_slice.ensures.value c.place.ensures
    c.as_slice-2.ensures.value c.place-2.ensures (c.is_same_at.ensures told) in
    rw (← c.self.view_is, ← c.other.view_is)
    (listed_same ours.longs.items theirs.longs.items ours.refusals.items theirs.refusals.items ours.shorts.items theirs.shorts.items
    c.args.at c.args.place one another here there
    (alike_same ours.longs.items theirs.longs.items ours.refusals.items theirs.refusals.items one another heads firsts
    (refused_left (unpacked one).deed not_short not_long) beside))
