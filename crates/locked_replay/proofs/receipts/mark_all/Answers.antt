use Rattle.std.proofs.Common.{rules, ◌≡◌, ◌<◌, inl, inr, ◌++◌, ◌∷◌, [], length, take, sym, subst, ◌∙◌, arith}
use Rattle.std.specs.List.{AllAdjacentBelow}
use Rattle.std.proofs.lemmas.List.{take_all}
use Rattle.std.proofs.lemmas.Option.{get_or_from_slice_get}
use Rattle.packed_history.specs.Lists.{Listed}
use Rattle.model_histories.specs.declared.reply.Receipt.{Receipt}
use Rattle.locked_replay.specs.Receipts.{AreMarked, AreAstray}
use Rattle.locked_replay.proofs.Marking.{astray_at}
use Rattle.locked_replay.proofs.Rising.{rise_more, falls, taken, some_there, rises_told, before_next}
use Rattle.locked_replay.proofs.receipts.mark_all.Goals as goal

pub returns-then-not-rises_at-clause-marks : goal.returns-then-not-rises_at-clause-marks
returns-then-not-rises_at-clause-marks g c met are =
    let list : Listed = c.args.receipts.now in
    let told = rises_told list.items c.loop-at.at c.loop-at.before c.number-number.result (search rules) c.loop-at.invariant.2 c.number-number.ensures in
    inl (falls list.items c.loop-at.at (search rules) (λ here. let rises = c.rises_at.ensures.1 (told.1 here) in search rules))

pub returns-then-not-mark-clause-marks : goal.returns-then-not-mark-clause-marks
returns-then-not-mark-clause-marks g c met are =
    let list : Listed = c.args.receipts.now in
    let there = some_there list.items c.loop-at.at (search rules) in
    let receipt : Receipt = there.0 in
    let astray = c.if-not-mark.ensures.marks (met ++ take c.loop-at.at list.items) receipt there.1 (c.loop-at.invariant.3 met are) in
    inr (astray_at c.args.entries.now.items met list.items c.loop-at.at receipt (search rules)
    (subst (λ (x : Receipt). AreAstray c.args.entries.now.items ((met ++ take c.loop-at.at list.items) ++ x ∷ []))
    (sym (get_or_from_slice_get list.items c.loop-at.at receipt receipt there.1)) astray))

pub loop-at-preserved : goal.loop-at-preserved
loop-at-preserved g c =
    let list : Listed = c.args.receipts.now in
    let there = some_there list.items c.loop-at.at (search rules) in
    let receipt : Receipt = there.0 in
    let told = rises_told list.items c.loop-at.at c.loop-at.before c.number-number.result (search rules) c.loop-at.invariant.2 c.number-number.ensures in (
      c.mark.ensures.length ∙ c.loop-at.invariant.0,
      rise_more list.items c.loop-at.at c.loop-at.invariant.1 (told.0 (c.rises_at.ensures.0 c.if-not-rises_at.false)),
      before_next list.items c.loop-at.at c.number-number.result c.number-number.ensures,
      λ met are.
          subst (AreMarked c.mark.new.marks c.args.entries.now.items) (taken met list.items c.loop-at.at receipt (search rules) there.1)
          (c.if-not-mark.ensures.marks (met ++ take c.loop-at.at list.items) receipt there.1 (c.loop-at.invariant.3 met are)),
    )

pub returns-clause-marks : goal.returns-clause-marks
returns-clause-marks g c met are =
    let list : Listed = c.args.receipts.now in
    let end : c.loop-at.at ≡ length list.items = omega (arith, c.loop-at-test.false, c.loop-at.auto.at-end, c.len-at-end.ensures) in (
      subst (AllAdjacentBelow (λ one next. one.number < next.number) list.items) end c.loop-at.invariant.1,
      subst (λ taken. AreMarked c.loop-at.marks c.args.entries.now.items (met ++ taken)) (take_all c.loop-at.at list.items (omega (arith, end))) (c.loop-at.invariant.3 met are),
    )
