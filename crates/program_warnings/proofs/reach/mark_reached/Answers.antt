use Rattle.std.proofs.lemmas.Grind.{common_steps}
use Rattle.std.proofs.Common.{rules, ◌≡◌, length, subst, false, arith}
use Rattle.std.specs.Prelude.{replicate}
use Rattle.std.proofs.lemmas.Option.{slice_get_within}
use Rattle.program_warnings.specs.Reach.{IsClosed, IsNext}
use Rattle.program_warnings.proofs.Reaching.{marked_one, first_mark, next_mark, closed_at, all_reached}
use Rattle.program_warnings.proofs.reach.mark_reached.Goals as goal

pub loop-next-init : goal.loop-next-init
loop-next-init c =
    let are : c.in_ok-marks.marks.items ≡ replicate (length c.args.functions.now) false = first_of (search rules, grind (arith, common_steps)) in
    first_mark c.args.functions.now c.args.main c.in_ok-marks.marks.items are c.requires.main

pub index_mut-requires-in-Some : goal.index_mut-requires-in-Some
index_mut-requires-in-Some c =
    let next : IsNext c.args.functions.now c.loop-next.marks.items c.in-Some.next =
    subst (λ all. IsNext c.args.functions.now all c.in-Some.next) c.as_slice.ensures.value c.in-Some.ensures in
    let within = slice_get_within c.loop-next.marks.items c.in-Some.next false next.unmarked in
    omega (arith, within, c.loop-next.marks.ok.0)

pub loop-next-smaller : goal.loop-next-smaller
loop-next-smaller c =
    let next : IsNext c.args.functions.now c.loop-next.marks.items c.in-Some.next =
    subst (λ all. IsNext c.args.functions.now all c.in-Some.next) c.as_slice.ensures.value c.in-Some.ensures in
    let one = marked_one c.loop-next.marks.items c.in-Some.next next.unmarked in
    omega (arith, one)

pub loop-next-preserved : goal.loop-next-preserved
loop-next-preserved c =
    let next : IsNext c.args.functions.now c.loop-next.marks.items c.in-Some.next =
    subst (λ all. IsNext c.args.functions.now all c.in-Some.next) c.as_slice.ensures.value c.in-Some.ensures in
    next_mark c.args.functions.now c.args.main c.loop-next.marks.items c.in-Some.next c.loop-next.invariant next

pub returns : goal.returns
returns c =
    let closed : IsClosed c.args.functions.now c.loop-next.marks.items =
    subst (IsClosed c.args.functions.now) c.as_slice.ensures.value (closed_at c.next_of.result _ _ c.in_default.is c.next_of.ensures) in
    all_reached c.args.functions.now c.requires.sound.0 c.requires.sound.1 c.requires.sound.2 c.loop-next.marks.items c.args.main
    c.loop-next.invariant.0 closed c.loop-next.invariant.1 c.loop-next.invariant.2
