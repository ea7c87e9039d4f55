-- A frame's stack, and the dialogue after which it stands.
use Rattle.std.specs.Prelude.{ℕ, ◌≡◌, ◌≢◌, ◌↔◌, false, Result, Err, OnOk, OnErr, List, [], ◌∷◌}
use Rattle.std.specs.Prelude.{◌++◌, map, reverse, Option, Some, None, slice_get, IsTrue}
use Rattle.model_programs.specs.Dialogue.{DialogueOf, Extent, Part}
use Rattle.model_bodies.specs.Codes.{Code}
use Rattle.model_bodies.specs.declared.statement.Statement.{Statement}
use Rattle.model_bodies.specs.Trees.{Step}
use Rattle.model_accesses.specs.declared.request.Act.{Act}
use Rattle.model_histories.specs.declared.answer.Answer.{Answer}
use Rattle.model_histories.specs.declared.answer.Answer.TheVariants.{Resumed, Ended, EndedJoined, Finished}
use Rattle.frame_steps.specs.declared.activation.Turn.{Turn}
use Rattle.frame_steps.specs.declared.activation.Activation.{Activation}
use Rattle.model_programs.specs.Values.{Registers, first_registers}
use Rattle.model_programs.specs.Answers.{Origin, FromCall, FromSpawn}
use Rattle.model_programs.specs.Exchanges.{Exchange}
use Rattle.frame_steps.specs.Activations.{left, end_line_of, statement_of, asked_act, is_plain, IsInPlace}
use Rattle.frame_steps.specs.Wraps.{wrap_of}
use Rattle.frame_steps.specs.declared.frame.FrameFault.{FrameFault}
use Rattle.frame_steps.specs.declared.phase.Phase.{Phase}
use Rattle.frame_steps.specs.declared.phase.Phase.TheVariants.{Running, Wanting, Over}
use Rattle.frame_steps.specs.Exchanges.{Follows}
use Rattle.frame_steps.specs.Stacks.{Standing, StackDialogue, StackComes, ComesBefore, origin_of}
use Rattle.frame_steps.specs.Joins.{joins_after}
use Rattle.frame_steps.specs.States.{FrameState}

-- Where an activation stands.
abbrev pub standing : List Code → Activation → Standing
standing functions activation =
    record { rest = left functions activation; end_line = end_line_of functions activation.function; registers = activation.registers }

abbrev pub callers_of : List Code → List Activation → List Standing
callers_of functions callers = map (standing functions) (reverse callers)

abbrev pub stack_in : List Code → Phase → Activation → List Activation → List Standing
stack_in functions Running top callers = standing functions top ∷ callers_of functions callers
stack_in functions Wanting top callers = standing functions top ∷ callers_of functions callers
stack_in functions Over top callers = []

-- The functions that a frame is in, the topmost first; none once it is over.
abbrev pub stack_of : List Code → FrameState → List Standing
stack_of functions frame = stack_in functions frame.phase frame.top frame.callers

abbrev pub joins_in : Phase → Activation → List Activation → List (Option ℕ)
joins_in Running top callers = top.join ∷ map (λ activation. activation.join) (reverse callers)
joins_in Wanting top callers = top.join ∷ map (λ activation. activation.join) (reverse callers)
joins_in Over top callers = []

-- The joins of the open blocks, the topmost function's first.
abbrev pub joins_of : FrameState → List (Option ℕ)
joins_of frame = joins_in frame.phase frame.top frame.callers

-- An activation stands where something is asked.
abbrev pub IsAsking : List Code → Activation → Type 0
IsAsking functions activation = (act : Act) × (asked_act (statement_of functions activation) activation.registers ≡ Some act)

-- The frame is one of this program.
pub record Stands (functions : List Code) (frame : FrameState) : Type 0 where
  pub top : IsInPlace functions frame.top
  pub callers : (index : ℕ) (caller : Activation) → slice_get frame.callers index ≡ Some caller → IsInPlace functions caller
  pub asking : frame.phase ≡ Wanting → IsAsking functions frame.top

-- The frame wants the act of this exchange, and the answer belongs to it.
pub record Wants (functions : List Code) (frame : FrameState) (x : Exchange) : Type 0 where
  pub wanting : frame.phase ≡ Wanting
  pub follows : Follows (origin_of (callers_of functions frame.callers))
      (statement_of functions frame.top) (end_line_of functions frame.top.function) frame.top.registers x

-- What was said so far is a dialogue of the function with this argument, and it goes on as the frame does, with the same registers.
pub record IsAfter (functions : List Code) (function argument : ℕ) (history : List Exchange) (frame : FrameState) : Type 0 where
  pub goes_on : (extent : Extent) (said : List Exchange) →
      StackDialogue functions extent (stack_of functions frame) said ↔ DialogueOf functions function argument extent (history ++ said)
  pub joins : joins_of frame ≡ joins_after (None ∷ []) history
  pub comes : (statement : Statement) (registers : Registers) (said : List Exchange) →
      StackComes functions statement registers (stack_of functions frame) said
      ↔ ComesBefore functions function argument (history ++ said) statement registers

-- After these exchanges the function with this argument stands before a statement whose index wraps, and the index is this.
pub record Wraps (functions : List Code) (function argument : ℕ) (history : List Exchange) (index : ℕ) : Type 0 where
  pub statement : Statement
  pub registers : Registers
  pub comes : ComesBefore functions function argument history statement registers
  pub wraps : wrap_of statement registers ≡ Some index

-- What was said so far can go on with this exchange.
abbrev pub CanFollow : List Code → (function argument : ℕ) → List Exchange → Exchange → Type 0
CanFollow functions function argument history x = DialogueOf functions function argument Part (history ++ x ∷ [])

-- Some exchange with this answer is what the frame wants.
pub record MayAnswer (functions : List Code) (frame : FrameState) (answer : Answer) : Type 0 where
  pub exchange : Exchange
  pub wants : Wants functions frame exchange
  pub is : exchange.answer ≡ answer

-- Who began the topmost function, by the activations below it.
abbrev pub began_by : List Activation → Origin
began_by [] = FromSpawn
began_by (caller ∷ callers) = FromCall

-- A frame before and after its topmost function returned.
abbrev pub IsLeft : Answer → FrameState → FrameState → Type 0
IsLeft Resumed before after = (before.callers ≡ after.callers ++ after.top ∷ []) × (after.phase ≡ Running)
IsLeft Ended before after = (before.callers ≡ []) × (after.top ≡ before.top) × (after.callers ≡ []) × (after.phase ≡ Over)
IsLeft (EndedJoined join) before after = (before.callers ≡ []) × (after.top ≡ before.top) × (after.callers ≡ []) × (after.phase ≡ Over)
IsLeft Finished before after = (before.callers ≡ []) × (after.top ≡ before.top) × (after.callers ≡ []) × (after.phase ≡ Over)
IsLeft _ before after = ⊥

-- A frame before and after its topmost function called another, behind whose return it goes on after the call.
pub record IsCalled (functions : List Code) (function argument : ℕ) (before after : FrameState) : Type 0 where
  pub caller : Activation
  pub same : (caller.function ≡ before.top.function) × (caller.registers ≡ before.top.registers) × (caller.join ≡ before.top.join)
  pub place : IsInPlace functions caller
  pub behind : (statement : Statement) → statement_of functions before.top ≡ Some statement → IsTrue (is_plain statement) →
      left functions before.top ≡ Step statement (left functions caller)
  pub begun : (after.top.function ≡ function) × (after.top.place ≡ 0)
      × (after.top.registers ≡ first_registers argument) × (after.top.join ≡ None) × (after.top.turn ≡ Turn.Plainly)
  pub callers : after.callers ≡ before.callers ++ caller ∷ []
  pub running : after.phase ≡ Running

-- What becomes of a frame whose wanted act is answered, by what it says to the answer.
pub record IsAnswered {T : Type 0} (functions : List Code) (before : FrameState)
    (answer : Answer) (result : Result T FrameFault) (after : FrameState) : Type 0 where
  pub stands : Stands functions after
  pub belongs : OnOk result (MayAnswer functions before answer)
  pub goes_on : OnOk result ((function argument : ℕ) (history : List Exchange) (x : Exchange) →
      IsAfter functions function argument history before → Wants functions before x → x.answer ≡ answer →
      IsAfter functions function argument (history ++ x ∷ []) after)
  pub unasked : OnOk result (after.phase ≢ Wanting)
  pub room : OnOk result ((x : Exchange) → Wants functions before x → x.act ≢ Act.Call → after.has_room ≡ before.has_room)
  pub err : OnErr result (after ≡ before)
  pub strange : result ≡ Err FrameFault.Strange → MayAnswer functions before answer → ⊥
  pub memory : result ≡ Err FrameFault.Memory →
      (before.has_room ≡ false) × ((x : Exchange) → Wants functions before x → x.act ≡ Act.Call) × MayAnswer functions before answer
