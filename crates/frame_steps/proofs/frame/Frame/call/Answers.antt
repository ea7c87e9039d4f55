use Rattle.std.proofs.Common.{◌≡◌, ◌∙◌, ◌∷◌, ◌++◌, [], List, ap, sym, refl}
use Rattle.frame_steps.specs.declared.activation.Activation.{Activation}
use Rattle.frame_steps.specs.Activations.{left, statement_of}
use Rattle.frame_steps.specs.States.{FrameState}
use Rattle.frame_steps.proofs.frame.Frame.call.Goals as goal

pub returns-clause-ok : goal.returns-clause-ok
returns-clause-ok g c =
    let functions = c.args.program.now.functions in
    let caller = c.step.new.self in
    let reserved = c.self.view_is ∙ c.in-Ok.ensures.ok in
    let top : c.self.inside.top ≡ c.args.self.now.top = ap (λ (s : FrameState). s.top) reserved in
    let same = c.step.ensures.same in
    let begun = c.begin-self-inside.ensures in record {
      caller = caller;
      same = (same.0 ∙ ap (λ (t : Activation). t.function) top, same.1 ∙ ap (λ (t : Activation). t.registers) top, same.2 ∙ ap (λ (t : Activation). t.join) top);
      place = c.step.ensures.place;
      behind = λ statement is plain. ap (left functions) (sym top) ∙ c.step.ensures.behind statement (ap (statement_of functions) top ∙ is) plain;
      begun = (begun.function, begun.place, begun.registers, begun.join, begun.turn);
      callers = c.push_reserved.ensures.items ∙ ap (λ (callers : List Activation). callers ++ caller ∷ []) (ap (λ (s : FrameState). s.callers) reserved);
      running = refl;
    }
