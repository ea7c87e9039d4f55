use Rattle.std.proofs.Common.{◌≡◌, ◌∙◌, ℕ, ap, sym, subst, Some, None, Err, length, rules}
use Rattle.text_words.specs.Declarations.{cells_of}
use Rattle.model_bodies.specs.declared.statement.Statement.TheVariants.{Call}
use Rattle.frame_steps.specs.declared.activation.Activation.{Activation}
use Rattle.model_bodies.specs.declared.statement.Operand.{Operand}
use Rattle.model_programs.specs.Values.{Registers, value_of}
use Rattle.frame_steps.specs.Requests.{answered}
use Rattle.frame_steps.specs.Activations.{left, statement_of}
use Rattle.frame_steps.proofs.Takings.{taken, not_taken, left_same, statement_same}
use Rattle.frame_steps.specs.Joins.{join_after}
use Rattle.frame_steps.specs.States.{FrameState}
use Rattle.frame_steps.specs.declared.frame.FrameFault.{FrameFault}
use Rattle.frame_steps.specs.Frames.{IsAnswered}
use Rattle.frame_steps.proofs.Answered.{refused, left_answered, call_answered, statement_answered}
use Rattle.frame_steps.proofs.Histories.{call_same, answer_strange}
use Rattle.frame_steps.proofs.frame.Frame.answer_wanted.Goals as goal

pub returns-in-None : goal.returns-in-None
returns-in-None g c =
    let functions = c.args.program.now.functions in
    let before = c.args.self.now in
    let top = ap (λ (s : FrameState). s.top) c.self.view_is in
    let none : statement_of functions before.top ≡ None = ap (λ t. statement_of functions t) (sym top) ∙ sym c.statement.ensures.at ∙ c.in-None.is in
    left_answered functions before c.leave.new.self c.args.answer.now c.leave.result c.requires.stands c.requires.wanting none c.leave.ensures.ok c.leave.ensures.returned c.leave.ensures.unasked c.leave.ensures.room c.leave.ensures.err c.leave.ensures.strange

pub returns-in-Same : goal.returns-in-Same
returns-in-Same g c =
    let functions = c.args.program.now.functions in
    let before = c.args.self.now in
    let top = ap (λ (s : FrameState). s.top) c.self.view_is in
    let line = c.in-Some-Call.field-0-0 in
    let function = c.in-Some-Call.function in
    let argument = c.in-Some-Call.argument in
    let e : statement_of functions before.top ≡ Some (Call line function argument) = ap (λ t. statement_of functions t) (sym top) ∙ sym c.statement.ensures.at ∙ c.in-Some-Call.is ∙ ap Some c.in-Some-Call.field-0-is in
    let v = c.value_of-argument.ensures ∙ ap (λ (t : Activation). value_of argument t.registers) top in
    call_answered functions (cells_of c.args.program.now.mems) (length c.args.program.now.reducers) before c.call.new.self line function argument c.value_of-argument.result c.args.answer.now c.call.result c.args.program.now.sound c.requires.stands c.requires.wanting e v c.in-Same.is c.call.ensures.ok c.call.ensures.err c.call.ensures.memory

pub returns-in_default : goal.returns-in_default
returns-in_default g c =
    let functions = c.args.program.now.functions in
    let before = c.args.self.now in
    let top = ap (λ (s : FrameState). s.top) c.self.view_is in
    let line = c.in-Some-Call.field-0-0 in
    let function = c.in-Some-Call.function in
    let argument = c.in-Some-Call.argument in
    let e : statement_of functions before.top ≡ Some (Call line function argument) = ap (λ t. statement_of functions t) (sym top) ∙ sym c.statement.ensures.at ∙ c.in-Some-Call.is ∙ ap Some c.in-Some-Call.field-0-is in
    refused functions before c.args.answer.now c.requires.stands (λ m. c.in_default.not-Same (call_same functions before line function argument c.args.answer.now e m))

pub returns-then-apply_answer : goal.returns-then-apply_answer
returns-then-apply_answer g c =
    let functions = c.args.program.now.functions in
    let before = c.args.self.now in
    let top = ap (λ (s : FrameState). s.top) c.self.view_is in
    let statement = c.in-Some.statement in
    let e : statement_of functions before.top ≡ Some statement = ap (λ t. statement_of functions t) (sym top) ∙ sym c.statement.ensures.at ∙ c.in-Some.is in
    let r = ap (λ (t : Activation). answered statement c.args.answer.now t.registers) (sym top) ∙ taken _ _ _ c.apply_answer.new.registers c.apply_answer.ensures c.if-apply_answer.true in
    let same = λ (t : Activation). t.function in
    statement_answered functions before c.go_on.new.self statement c.args.answer.now c.apply_answer.new.registers _ c.requires.stands c.requires.wanting e r c.go_on.ensures.place
    (c.go_on.ensures.function ∙ ap same top) c.go_on.ensures.registers (c.go_on.ensures.join ∙ ap (λ (t : Activation). join_after c.args.answer.now t.join) top)
    (λ t is plain. ap (λ a. left functions a) (sym top) ∙ sym (left_same functions _ _) ∙ c.go_on.ensures.behind t (statement_same functions _ _ ∙ ap (λ a. statement_of functions a) top ∙ is) plain)
    (c.go_on.ensures.rest.0 ∙ ap (λ (s : FrameState). s.callers) c.self.view_is) c.go_on.ensures.rest.1
    (c.go_on.ensures.rest.2 ∙ ap (λ (s : FrameState). s.has_room) c.self.view_is)

pub returns-else-apply_answer : goal.returns-else-apply_answer
returns-else-apply_answer g c =
    let functions = c.args.program.now.functions in
    let before = c.args.self.now in
    let frame = c.self.inside in
    let top = ap (λ (s : FrameState). s.top) c.self.view_is in
    let statement = c.in-Some.statement in
    let e : statement_of functions before.top ≡ Some statement = ap (λ t. statement_of functions t) (sym top) ∙ sym c.statement.ensures.at ∙ c.in-Some.is in
    let none = not_taken _ _ _ c.apply_answer.new.registers c.apply_answer.ensures c.if-apply_answer.false in
    let r : answered statement c.args.answer.now before.top.registers ≡ None = ap (λ (t : Activation). answered statement c.args.answer.now t.registers) (sym top) ∙ none.0 in
    let not_call : (line function : ℕ) (argument : Operand) → statement ≡ Call line function argument → ⊥ = search rules in
    let with : Registers → FrameState = λ registers. record { phase = frame.phase; top = record frame.top { registers = registers }; callers = frame.callers.items; has_room = frame.has_room } in
    let same : with c.apply_answer.new.registers ≡ before = ap with none.1 ∙ c.self.view_is in
    subst (λ (s : FrameState). IsAnswered {T = Unit {0}} functions before c.args.answer.now (Err FrameFault.Strange) s) (sym same)
    (refused functions before c.args.answer.now c.requires.stands (answer_strange functions before statement c.args.answer.now not_call e r))

pub invariant_of-self : goal.invariant_of-self
invariant_of-self g c = c.self.invariant

pub invariant_of-self-else-apply_answer : goal.invariant_of-self-else-apply_answer
invariant_of-self-else-apply_answer g c = c.self.invariant
