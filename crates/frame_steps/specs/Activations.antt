-- Where an activation stands in its function.
use Rattle.std.specs.Prelude.{ℕ, suc, ◌≡◌, ◌<◌, ◌≤◌, ◌-◌, ◌+◌, ◌*◌, ◌^◌, Bool, true, false, List}
use Rattle.std.specs.Prelude.{Option, Some, None, length, drop, slice_get, nat_lt, if◌then◌else◌}
use Rattle.model_bodies.specs.declared.statement.Operand.TheVariants.{Number}
use Rattle.model_bodies.specs.declared.statement.Expression.TheVariants.{Plain}
use Rattle.model_bodies.specs.declared.statement.Statement.{Statement}
use Rattle.model_bodies.specs.declared.statement.Statement.TheVariants.{Let, Spawn, Sync, If, Else, End}
use Rattle.model_bodies.specs.Codes.{Code}
use Rattle.model_bodies.specs.Trees.{Tree, Done, Step, and_then, left_of}
use Rattle.frame_steps.specs.declared.activation.Turn.{Turn}
use Rattle.frame_steps.specs.declared.activation.Turn.TheVariants.{Plainly, Numbering, Spawning, Returning}
use Rattle.frame_steps.specs.declared.activation.Activation.{Activation}
use Rattle.model_accesses.specs.declared.request.Act.{Act}
use Rattle.model_programs.specs.Values.{Registers}
use Rattle.model_programs.specs.Scripts.{closing, numbers}
use Rattle.frame_steps.specs.Requests.{act_of}

-- What is left behind a place of a function, whichever turn it is.
abbrev pub left_at : Code → (place : ℕ) → Tree
left_at code place = and_then (left_of (drop place code.body)) (closing code.end_line)

-- What is left of a function at a turn.
abbrev pub left_on : Code → (place : ℕ) → Turn → Tree
left_on code place Plainly = left_at code place
left_on code place (Numbering line register function number count) =
    numbers line register function number (count - number) (left_at code place)
left_on code place (Spawning line register function number count) =
    Step (Spawn line function (Number number)) (numbers line register function (suc number) (count - suc number) (left_at code place))
left_on code place Returning = Done

-- What is left of a function where an activation stands.
abbrev pub left_in : Code → Activation → Tree
left_in code activation = left_on code activation.place activation.turn

-- What is left of the function of an activation, which is one of these.
abbrev pub left_by : Option Code → Activation → Tree
left_by None activation = Done
left_by (Some code) activation = left_in code activation

abbrev pub left : List Code → Activation → Tree
left functions activation = left_by (slice_get functions activation.function) activation

-- The line of a function's `end`.
abbrev pub end_line_by : Option Code → ℕ
end_line_by None = 0
end_line_by (Some code) = code.end_line

abbrev pub end_line_of : List Code → ℕ → ℕ
end_line_of functions function = end_line_by (slice_get functions function)

-- The statement of a list, or this one behind it.
abbrev pub statement_or : Option Statement → Statement → Statement
statement_or None last = last
statement_or (Some statement) last = statement

-- The statement before which an activation stands; none before the return. The numbers of a `pfor` and the sync at a function's end have
-- statements of their own.
abbrev pub statement_on : Code → (place : ℕ) → Turn → Option Statement
statement_on code place Plainly = Some (statement_or (slice_get code.body place) (Sync code.end_line))
statement_on code place (Numbering line register function number count) =
    Some (if nat_lt number count then Let line register (Plain (Number number)) else Sync line)
statement_on code place (Spawning line register function number count) = Some (Spawn line function (Number number))
statement_on code place Returning = None

abbrev pub statement_in : Code → Activation → Option Statement
statement_in code activation = statement_on code activation.place activation.turn

abbrev pub statement_by : Option Code → Activation → Option Statement
statement_by None activation = None
statement_by (Some code) activation = statement_in code activation

-- The statement before which an activation of one of these functions stands.
abbrev pub statement_of : List Code → Activation → Option Statement
statement_of functions activation = statement_by (slice_get functions activation.function) activation

-- What a function asks before a statement: a return where there is none.
abbrev pub asked_act : Option Statement → Registers → Option Act
asked_act None registers = Some Act.Return
asked_act (Some statement) registers = act_of statement registers

-- How many more steps an activation can take before it asks.
abbrev pub steps_ahead : (length : ℕ) (place : ℕ) → Turn → ℕ
steps_ahead length place (Numbering line register function number count) = 2 * (length - place) + 1
steps_ahead length place _ = 2 * (length - place)

-- A statement that stands in a tree as itself: no `if`, `else` or `end`.
abbrev pub is_plain : Statement → Bool
is_plain (If line register otherwise) = false
is_plain (Else line after) = false
is_plain (End line) = false
is_plain _ = true

-- The function that the running `pfor` spawns is there, its numbers are in range, and while it spawns one is left.
abbrev pub IsTurn : (functions : ℕ) → Turn → Type 0
IsTurn functions (Numbering line register function number count) = (function < functions) × (count < 2 ^ 64)
IsTurn functions (Spawning line register function number count) = (function < functions) × (count < 2 ^ 64) × (number < count)
IsTurn functions _ = Unit {0}

-- The activation stands in a body of this program, which has so many functions.
pub record StandsIn (functions : ℕ) (body : List Statement) (activation : Activation) : Type 0 where
  pub within : activation.place ≤ length body
  pub turn : IsTurn functions activation.turn

-- The activation is one of a program with these functions.
pub record IsInPlace (functions : List Code) (activation : Activation) : Type 0 where
  pub code : Code
  pub known : slice_get functions activation.function ≡ Some code
  pub stands : StandsIn (length functions) code.body activation
