use Rattle.std.proofs.Common.{◌≡◌, ◌∙◌, true≢false, sym, ap}
use Rattle.std.proofs.lemmas.Bool.{both_ways}
use Rattle.std.specs.Prelude.{Err}
use Rattle.frame_steps.specs.declared.frame.FrameFault.TheVariants.{Strange}
use Rattle.run_replay.proofs.Turns.{over_none, other_want, other_answer, turned}
use Rattle.run_replay.proofs.turn.advance_frame.Goals as goal
use Rattle.run_replay.proofs.turn.advance_frame.Goals.{then-not-is_same_act-via-then-not-is_same_act, then-not-is_same_act-via-else-not-is_same_act+then-want-entry}

pub next-want-requires-clause-on : goal.next-want-requires-clause-on
next-want-requires-clause-on g c = λ over. true≢false (sym (c.is_over.ensures.over.1 over) ∙ c.if-is_over.false)

pub returns-then-is_over-clause-strange : goal.returns-then-is_over-clause-strange
returns-then-is_over-clause-strange g c =
    λ e. over_none c.args.program.now.functions c.args.entry c.args.frame.now (c.is_over.ensures.over.0 c.if-is_over.true)

pub returns-then-not-is_same_act-clause-strange : goal.returns-then-not-is_same_act-clause-strange
returns-then-not-is_same_act-clause-strange g c =
    λ e. other_want c.args.program.now.functions c.args.entry c.args.frame.now c.next-want.new.self c.next-want.ensures.after
    (λ function argument history x a. (c.next-want.ensures.only function argument history x a).0) c.next-want.result.act c.next-want.result.line c.next-want.ensures.asks
    (λ act line. elim c.then-not-is_same_act.branch [
      | then-not-is_same_act-via-then-not-is_same_act w ↦ both_ways _ w.if-not-is_same_act.true (c.is_same_act.ensures.1 act)
      | then-not-is_same_act-via-else-not-is_same_act+then-want-entry w ↦ w.if-want-entry.true line
    ])

pub returns-in-Ok-clause-ok : goal.returns-in-Ok-clause-ok
returns-in-Ok-clause-ok g c =
    let act : c.next-want.result.act ≡ c.args.entry.request.act = c.is_same_act.ensures.0 c.if-not-is_same_act.false in
    let line : c.next-want.result.line ≡ c.args.entry.request.line = c.if-want-entry.false in
    turned c.args.program.now.functions c.args.entry c.args.frame.now c.next-want.new.self c.next-want.ensures.after
    (λ function argument history x a. (c.next-want.ensures.only function argument history x a).0) c.answer.new.self c.next-want.result.act c.next-want.result.line
    c.spawn_target-target.result c.next-want.ensures.asks act line (λ x w. c.spawn_target-target.ensures.target x w (c.next-want.ensures.asks x w).0) c.spawn_target-target.ensures.there c.in-Ok.ensures.belongs c.in-Ok.ensures.after
    c.in-Ok.ensures.stands

pub returns-in-Err-Strange-clause-strange : goal.returns-in-Err-Strange-clause-strange
returns-in-Err-Strange-clause-strange g c =
    let strange : c.answer.result ≡ Err Strange = c.in-Err-Strange.is ∙ ap Err c.in-Err-Strange.field-0-is in
    λ e. other_answer c.args.program.now.functions c.args.entry c.args.frame.now c.next-want.new.self c.next-want.ensures.after
    (λ function argument history x a. (c.next-want.ensures.only function argument history x a).0) (c.answer.ensures.strange strange)
