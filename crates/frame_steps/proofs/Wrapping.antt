-- An index that wraps where a frame asks.
use Rattle.std.proofs.Common.{◌≡◌, ◌≢◌, ℕ, ◌↔◌, List, [], Option, Some, None, refl, sym, subst, append-nil}
use Rattle.model_accesses.specs.declared.request.Act.{Act}
use Rattle.model_bodies.specs.declared.statement.Statement.{Statement}
use Rattle.model_bodies.specs.Codes.{Code}
use Rattle.model_bodies.specs.Trees.{Tree}
use Rattle.model_programs.specs.Values.{Registers}
use Rattle.model_programs.specs.Exchanges.{Exchange}
use Rattle.frame_steps.specs.declared.activation.Activation.{Activation}
use Rattle.frame_steps.specs.Scripts.{PassesAll}
use Rattle.frame_steps.specs.Activations.{left, end_line_of, statement_of, asked_act, IsInPlace}
use Rattle.frame_steps.specs.Wraps.{wrap_of, wrap_before}
use Rattle.frame_steps.specs.declared.phase.Phase.TheVariants.{Over}
use Rattle.frame_steps.specs.Exchanges.{tree_at}
use Rattle.frame_steps.specs.Stacks.{Comes, StackComes, ComesBefore, stands_here}
use Rattle.frame_steps.specs.States.{FrameState}
use Rattle.frame_steps.specs.Frames.{callers_of, IsAfter, Wraps}
use Rattle.frame_steps.proofs.Comings.{past_all, comes_here, none_left_here}
use Rattle.frame_steps.proofs.Standings.{asking_tree}
use Rattle.frame_steps.proofs.Histories.{open_stack, over_stack}

module _ (functions : List Code) (frame : FrameState) where
  -- one that has ended asks nothing
  pub over_wraps : frame.phase ≡ Over → (function argument : ℕ) (history : List Exchange) → IsAfter functions function argument history frame → (index : ℕ) →
      (None ≡ Some index) ↔ Wraps functions function argument history index
  over_wraps over function argument history is index = (
    (λ e. cc),
    (λ w. absurd
        (subst (λ s. StackComes functions w.statement w.registers s []) (over_stack functions frame over)
        ((is.comes w.statement w.registers []).1 (subst (λ l. ComesBefore functions function argument l w.statement w.registers) (sym (append-nil history)) w.comes)))),
  )

  module _ (after : Activation) (going : frame.phase ≢ Over)
      (passes : PassesAll (left functions frame.top) frame.top.registers (left functions after) after.registers)
      (function argument : ℕ) (history : List Exchange) (is : IsAfter functions function argument history frame) where
    -- after the statements that ask nothing
    sought : (statement : Statement) (registers : Registers) →
        Comes functions statement registers (end_line_of functions frame.top.function) (left functions after) after.registers (callers_of functions frame.callers) []
        ↔ ComesBefore functions function argument history statement registers
    sought statement registers =
        let all = past_all functions statement registers (end_line_of functions frame.top.function) (left functions frame.top) (left functions after) frame.top.registers after.registers
        (callers_of functions frame.callers) [] passes in
        let stack = open_stack functions frame.phase frame.top frame.callers going in
        let place : List Exchange → Type 0 = λ l. ComesBefore functions function argument l statement registers in
        let here = is.comes statement registers [] in (
          (λ d. subst place (append-nil history) (here.0 (subst (λ s. StackComes functions statement registers s []) (sym stack) (all.1 d)))),
          (λ d. all.0 (subst (λ s. StackComes functions statement registers s []) stack (here.1 (subst place (sym (append-nil history)) d)))),
        )

    at_statement : (statement : Option Statement) (rest : Tree) (act : Act) → asked_act statement after.registers ≡ Some act → left functions after ≡ tree_at statement rest →
        (index : ℕ) → (wrap_before statement after.registers ≡ Some index) ↔ Wraps functions function argument history index
    at_statement None rest act a l index = (
      (λ e. cc),
      (λ w. absurd (none_left_here functions w.statement w.registers (end_line_of functions frame.top.function) after.registers (callers_of functions frame.callers)
          (subst (λ t. Comes functions w.statement w.registers (end_line_of functions frame.top.function) t after.registers (callers_of functions frame.callers) []) l
          ((sought w.statement w.registers).1 w.comes)))),
    )
    at_statement (Some statement) rest act a l index = (
      (λ e. record {
        statement = statement;
        registers = after.registers;
        comes = (sought statement after.registers).0
            (subst (λ t. Comes functions statement after.registers (end_line_of functions frame.top.function) t after.registers (callers_of functions frame.callers) []) (sym l) (stands_here a));
        wraps = e;
      }),
      (λ w.
          let same = comes_here functions w.statement w.registers (end_line_of functions frame.top.function) statement rest after.registers (callers_of functions frame.callers) act a
          (subst (λ t. Comes functions w.statement w.registers (end_line_of functions frame.top.function) t after.registers (callers_of functions frame.callers) []) l
          ((sought w.statement w.registers).1 w.comes)) in
          subst (λ r. wrap_of statement r ≡ Some index) same.1 (subst (λ s. wrap_of s w.registers ≡ Some index) same.0 w.wraps)),
    )

    -- one that asks
    pub asking_wraps : (act : Act) → IsInPlace functions after → asked_act (statement_of functions after) after.registers ≡ Some act → (index : ℕ) →
        (wrap_before (statement_of functions after) after.registers ≡ Some index) ↔ Wraps functions function argument history index
    asking_wraps act place asks =
        let t = asking_tree functions after (statement_of functions after) act place refl asks in
        at_statement (statement_of functions after) t.0 act asks t.1
