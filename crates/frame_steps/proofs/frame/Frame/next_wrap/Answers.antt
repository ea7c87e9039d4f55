use Rattle.std.proofs.Common.{◌≡◌, ◌≢◌, ◌↔◌, ◌∙◌, ap, sym, subst, Some}
use Rattle.std.proofs.lemmas.Bool.{false≢true}
use Rattle.frame_steps.specs.declared.activation.Activation.{Activation}
use Rattle.frame_steps.specs.Scripts.{PassesAll}
use Rattle.frame_steps.specs.Activations.{left}
use Rattle.frame_steps.specs.Wraps.{wrap_before}
use Rattle.frame_steps.specs.declared.phase.Phase.TheVariants.{Over}
use Rattle.frame_steps.specs.States.{FrameState}
use Rattle.frame_steps.specs.Frames.{Wraps}
use Rattle.frame_steps.proofs.Wrapping.{over_wraps, asking_wraps}
use Rattle.frame_steps.proofs.frame.Frame.next_wrap.Goals as goal
use Rattle.frame_steps.proofs.frame.Frame.next_wrap.Goals.{in-Over, in_default}

pub returns-then-matches : goal.returns-then-matches
returns-then-matches g c =
    let over : c.args.self.now.phase ≡ Over = elim c.match-matches.branch [
      | in-Over w ↦ ap (λ (s : FrameState). s.phase) (sym c.self.view_is) ∙ w.in-Over.is
      | in_default w ↦ absurd (false≢true (sym w.matches-is ∙ c.if-matches.true))
    ] in
    over_wraps c.args.program.now.functions c.args.self.now over

pub returns-in-Some : goal.returns-in-Some
returns-in-Some g c = λ function argument history is index.
    let functions = c.args.program.now.functions in
    let after = c.seek-want.new.self in
    let going : c.args.self.now.phase ≢ Over = λ over. elim c.match-matches.branch [
      | in-Over w ↦ false≢true (sym c.if-matches.false ∙ w.matches-is)
      | in_default w ↦ w.in_default.not-Over (ap (λ (s : FrameState). s.phase) c.self.view_is ∙ over)
    ] in
    let top = ap (λ (s : FrameState). s.top) c.self.view_is in
    let passes = subst (λ (t : Activation). PassesAll (left functions t) t.registers (left functions after) after.registers) top c.seek-want.ensures.passes in
    let wrap = ap (λ o. wrap_before o after.registers) (sym c.statement.ensures.at ∙ c.in-Some.is) ∙ sym c.wrap_of.ensures in
    subst (λ r. (r ≡ Some index) ↔ Wraps functions function argument history index) wrap
    (asking_wraps functions c.args.self.now after going passes function argument history is c.seek-want.result.act c.seek-want.ensures.place c.seek-want.ensures.asked index)

pub returns-in-None : goal.returns-in-None
returns-in-None g c = λ function argument history is index.
    let functions = c.args.program.now.functions in
    let after = c.seek-want.new.self in
    let going : c.args.self.now.phase ≢ Over = λ over. elim c.match-matches.branch [
      | in-Over w ↦ false≢true (sym c.if-matches.false ∙ w.matches-is)
      | in_default w ↦ w.in_default.not-Over (ap (λ (s : FrameState). s.phase) c.self.view_is ∙ over)
    ] in
    let top = ap (λ (s : FrameState). s.top) c.self.view_is in
    let passes = subst (λ (t : Activation). PassesAll (left functions t) t.registers (left functions after) after.registers) top c.seek-want.ensures.passes in
    let wrap = ap (λ o. wrap_before o after.registers) (sym c.statement.ensures.at ∙ c.in-None.is) in
    subst (λ r. (r ≡ Some index) ↔ Wraps functions function argument history index) wrap
    (asking_wraps functions c.args.self.now after going passes function argument history is c.seek-want.result.act c.seek-want.ensures.place c.seek-want.ensures.asked index)
