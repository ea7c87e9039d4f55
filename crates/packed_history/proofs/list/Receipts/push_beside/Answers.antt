use Rattle.std.proofs.Common.{◌≡◌, true, false, length, arith}
use Rattle.std.proofs.lemmas.Bool.{false≢true}
use Rattle.packed_history.specs.Packing.{unpacked}
use Rattle.packed_history.specs.Shorts.{index_of}
use Rattle.packed_history.proofs.Kept.{Grown, grown_long, grown_refused}
use Rattle.packed_history.proofs.list.Receipts.push_beside.Given as given
use Rattle.packed_history.proofs.list.Receipts.push_beside.Goals as goal

refused_grows : (g : given.Over) (c : goal.After-push_reserved-in-Some g) → Grown c.self.inside.longs.items c.self.inside.refusals.items
    c.self.inside.shorts.items c.args.receipt c.self.inside.longs.items c.push_reserved.new.self.items c.push_reserved-in-Some.new.self.items
refused_grows g c =
    let inside = c.self.inside in
    let told = c.in-Some.ensures in
    let at : index_of (unpacked c.in-Some.short).deed ≡ length inside.refusals.items =
    omega (arith, c.len.ensures, inside.refusals.ok.0, told.1) in
    grown_refused inside.longs.items inside.refusals.items c.push_reserved.new.self.items inside.shorts.items c.push_reserved-in-Some.new.self.items
    c.in-Some.short c.in-Some.refusal c.args.receipt c.push_reserved.ensures.items c.push_reserved-in-Some.ensures.items c.self.invariant.0
    told.0 at told.2

long_grows : (g : given.Over) (c : goal.After-push_reserved-in-None-2 g) → Grown c.self.inside.longs.items c.self.inside.refusals.items
    c.self.inside.shorts.items c.args.receipt c.push_reserved-in-None.new.self.items c.self.inside.refusals.items
    c.push_reserved-in-None-2.new.self.items
long_grows g c =
    let inside = c.self.inside in
    let at : index_of (unpacked c.long_at-short.result).deed ≡ length inside.longs.items =
    omega (arith, c.len-in-None.ensures, inside.longs.ok.0, c.long_at-short.ensures.index) in
    grown_long inside.longs.items c.push_reserved-in-None.new.self.items inside.refusals.items inside.shorts.items
    c.push_reserved-in-None-2.new.self.items c.long_at-short.result c.args.receipt c.push_reserved-in-None.ensures.items
    c.push_reserved-in-None-2.ensures.items c.self.invariant.0 c.long_at-short.ensures.long at

pub invariant_of-self : goal.invariant_of-self
invariant_of-self g c = ((refused_grows g c).0, (λ (never : false ≡ true). absurd (false≢true never)), λ (never : false ≡ true). absurd (false≢true never))

pub invariant_of-self-in-None : goal.invariant_of-self-in-None
invariant_of-self-in-None g c = ((long_grows g c).0, (λ (never : false ≡ true). absurd (false≢true never)), λ (never : false ≡ true). absurd (false≢true never))

pub returns-in-Some : goal.returns-in-Some
returns-in-Some g c = rw (← c.self.view_is) ((refused_grows g c).1)

pub returns-in-None : goal.returns-in-None
returns-in-None g c = rw (← c.self.view_is) ((long_grows g c).1)
