use Rattle.std.proofs.Common.{◌≡◌, ◌<◌, length, subst, rules, sym, true, Some, slice_get}
use Rattle.packed_history.specs.Lists.{Listed}
use Rattle.packed_history.specs.Packing.{unpacked}
use Rattle.packed_history.specs.Shorts.{is_short}
use Rattle.packed_history.proofs.Clean.{clean_at}
use Rattle.packed_history.proofs.Kept.{stands_at}
use Rattle.packed_history.proofs.list.Receipts.is_clean.Goals as goal

pub returns : goal.returns
returns g c told receipt is =
    let inside = c.self.inside in
    let one = c.index.result.now in
    let short : is_short (unpacked one).deed ≡ true = search rules in
    let here : slice_get inside.shorts.items c.args.at ≡ Some one =
    stands_at inside.longs.items inside.refusals.items inside.shorts.items c.args.at one
    (subst (λ (list : Listed). c.args.at < length list.items) (sym c.self.view_is) c.requires) c.index.ensures in
    clean_at inside.longs.items inside.refusals.items inside.shorts.items c.args.at one receipt here short
    (subst (λ (list : Listed). slice_get list.items c.args.at ≡ Some receipt) (sym c.self.view_is) is)
