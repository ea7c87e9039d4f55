use Rattle.std.proofs.Common.{◌<◌, length, refl, sym, subst, ◌∙◌, arith}
use Rattle.std.proofs.lemmas.List.{take_all}
use Rattle.std.proofs.lemmas.List.Elements.{All-more}
use Rattle.std.proofs.lemmas.Option.{get_or_from_slice_get}
use Rattle.model_histories.specs.declared.answer.Entry.{Entry}
use Rattle.model_histories.specs.Extensions.{IsCleanAnswer, IsClean}
use Rattle.locked_replay.proofs.whole.is_clean.Goals as goal

pub loop-at-preserved : goal.loop-at-preserved
loop-at-preserved g c =
    let items = c.args.entries.now.items in
    let here = get_or_from_slice_get items c.loop-at.at c.get.result c.get.result c.get.ensures in
    All-more (λ (entry : Entry). IsCleanAnswer entry.answer) items c.loop-at.at c.get.result (omega (arith, c.loop-at-test.true, c.len-at-end.ensures)) c.loop-at.invariant
    (subst (λ (entry : Entry). IsCleanAnswer entry.answer) (sym here) (c.is_clean_answer.ensures.0 c.if-not-is_clean_answer.false))

pub returns : goal.returns
returns g c =
    let whole = take_all c.loop-at.at c.args.entries.now.items (omega (arith, c.loop-at-test.false, c.len-at-end.ensures)) in
    (λ told. subst IsClean whole c.loop-at.invariant, λ clean. refl)

pub returns-then-not-is_clean_answer : goal.returns-then-not-is_clean_answer
returns-then-not-is_clean_answer g c =
    let items = c.args.entries.now.items in
    let low : c.loop-at.at < length items = omega (arith, c.loop-at-test.true, c.len-at-end.ensures) in
    let here = get_or_from_slice_get items c.loop-at.at c.get.result c.get.result c.get.ensures in (
      (λ told. absurd (cc)),
      (λ clean. sym c.if-not-is_clean_answer.true
          ∙ c.is_clean_answer.ensures.1 (subst (λ (entry : Entry). IsCleanAnswer entry.answer) here (clean c.loop-at.at c.get.result low))),
    )
