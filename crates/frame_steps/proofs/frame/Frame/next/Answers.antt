use Rattle.std.proofs.Common.{◌∙◌, ap, subst, refl, length}
use Rattle.text_words.specs.Declarations.{cells_of}
use Rattle.frame_steps.specs.declared.activation.Activation.{Activation}
use Rattle.frame_steps.specs.Scripts.{PassesAll}
use Rattle.frame_steps.specs.Activations.{left}
use Rattle.frame_steps.specs.States.{FrameState}
use Rattle.frame_steps.proofs.Histories.{sought_after, wants_asked, wanted_follows}
use Rattle.frame_steps.proofs.frame.Frame.next.Goals as goal

pub returns-clause-asks : goal.returns-clause-asks
returns-clause-asks g c = λ x w. wants_asked c.args.program.now.functions _ c.seek-want.result x c.seek-want.ensures.place c.seek-want.ensures.asked c.seek-want.ensures.asks w

pub returns-clause-after : goal.returns-clause-after
returns-clause-after g c =
    let functions = c.args.program.now.functions in
    let callers = ap (λ (s : FrameState). s.callers) c.self.view_is in
    let top = ap (λ (s : FrameState). s.top) c.self.view_is in
    let passes = subst (λ (t : Activation). PassesAll (left functions t) t.registers (left functions c.seek-want.new.self) c.seek-want.new.self.registers) top c.seek-want.ensures.passes in
    sought_after functions c.args.self.now _ c.requires.on refl callers (c.seek-want.ensures.same.0 ∙ ap (λ (t : Activation). t.function) top) (c.seek-want.ensures.same.1 ∙ ap (λ (t : Activation). t.join) top) passes

pub returns-clause-only : goal.returns-clause-only
returns-clause-only g c =
    let functions = c.args.program.now.functions in
    let callers = ap (λ (s : FrameState). s.callers) c.self.view_is in
    let top = ap (λ (s : FrameState). s.top) c.self.view_is in
    let passes = subst (λ (t : Activation). PassesAll (left functions t) t.registers (left functions c.seek-want.new.self) c.seek-want.new.self.registers) top c.seek-want.ensures.passes in
    λ function argument history x a. wanted_follows functions (cells_of c.args.program.now.mems) (length c.args.program.now.reducers) _ c.seek-want.result.act c.args.program.now.sound c.seek-want.ensures.place refl c.seek-want.ensures.asked function argument history (sought_after functions c.args.self.now _ c.requires.on refl callers (c.seek-want.ensures.same.0 ∙ ap (λ (t : Activation). t.function) top) (c.seek-want.ensures.same.1 ∙ ap (λ (t : Activation). t.join) top) passes function argument history a) x
