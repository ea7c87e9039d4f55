use Rattle.std.proofs.Common.{arith}
use Rattle.std.proofs.lemmas.Bool.{ltb-true, lt-ltb}
use Rattle.order_list.proofs.Tied.{before-inner, before-outer}
use Rattle.order_list.proofs.grouping.Grouping.is_before.Goals as goal

pub returns-then-place-other : goal.returns-then-place-other
returns-then-place-other g c =
    let place = rw c.deref.ensures.value at c.place_at-place.ensures in
    let other = rw c.deref-2.ensures.value at c.place_at-other.ensures in
    let both = before-inner c.args.self.now.grouped c.args.a c.args.b c.requires.a_known c.requires.b_known (omega (arith, place.group, other.group)) in (
      λ test. both.0 (omega (arith, place.local, other.local, ltb-true _ _ test)),
      λ earlier. lt-ltb _ _ (omega (arith, place.local, other.local, both.1 earlier)),
    )

pub returns : goal.returns
returns g c =
    let place = rw c.deref.ensures.value at c.place_at-place.ensures in
    let other = rw c.deref-2.ensures.value at c.place_at-other.ensures in
    let both = before-outer c.args.self.now.grouped c.args.a c.args.b c.requires.a_known c.requires.b_known (λ same. omega (arith, same, place.group, other.group)) in
    let groups = rw (place.group, other.group) at c.is_before.ensures in
    (λ test. both.0 (groups.0 test), λ earlier. groups.1 (both.1 earlier))
