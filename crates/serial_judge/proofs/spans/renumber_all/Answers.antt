-- One more span has its new numbers.
use Rattle.std.proofs.Common.{◌≤◌, ◌<◌, ◌+◌, length, get_or, sym, subst, arith}
use Rattle.std.proofs.lemmas.List.{get_or_default}
use Rattle.serial_judge.specs.declared.spans.Span.{Span}
use Rattle.serial_judge.specs.Moves.{moved_span}
use Rattle.serial_judge.proofs.Moving.{map_step, ends_within}
use Rattle.serial_judge.proofs.spans.renumber_all.Goals as goal

pub loop-span-preserved : goal.loop-span-preserved
loop-span-preserved g c marks moves ascending =
    let none : Span = record { begin = 0; end = 0; site = 0 } in
    let i = c.loop-span.span-index in
    let lt : i < length c.args.spans.now = omega (arith, c.loop-span-test.true, c.loop-span.auto.spans) in
    let here : i < length c.loop-span.spans = omega (arith, c.loop-span-test.true, c.loop-span.auto.spans) in
    let x : Span = get_or c.loop-span.spans i none in
    map_step (moved_span marks) c.args.spans.now c.loop-span.spans i x c.renumbered.result lt (c.loop-span.invariant marks moves ascending)
    (get_or_default c.loop-span.spans i none x here)
    (λ e. c.renumbered.ensures marks moves
    (subst (λ (z : Span). z.begin ≤ length marks + 1) (sym e) (ends_within 1 c.args.spans.now (length marks + 1) i x ascending lt).0)
    (subst (λ (z : Span). z.end ≤ length marks + 1) (sym e) (ends_within 1 c.args.spans.now (length marks + 1) i x ascending lt).1))
