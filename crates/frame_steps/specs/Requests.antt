-- What a statement asks, and what an answer to it does.
use Rattle.std.specs.Prelude.{ℕ, ◌≡◌, ◌<◌, Option, Some, None, Bool, true}
use Rattle.model_accesses.specs.Limits.{most_cells}
use Rattle.model_bodies.specs.declared.statement.Statement.{Statement}
use Rattle.model_bodies.specs.declared.statement.Statement.TheVariants.{Read, Write, Bump, Update, Put, Get}
use Rattle.model_bodies.specs.declared.statement.Statement.TheVariants.{Spawn, Call, Sync}
use Rattle.model_bodies.specs.Lines.{line_of}
use Rattle.model_bodies.specs.Sound.{is_located}
use Rattle.model_bodies.specs.Trees.{Tree, Done, Step, Choice}
use Rattle.model_accesses.specs.declared.request.Act.{Act}
use Rattle.model_histories.specs.declared.answer.Answer.{Answer}
use Rattle.model_programs.specs.declared.target.Target.{Target}
use Rattle.frame_steps.specs.declared.request.Want.{Want}
use Rattle.model_programs.specs.Values.{Registers, value_of, cell_of}
use Rattle.model_programs.specs.Answers.{after_read, after_get, after_write, after_update, after_spawn, after_sync}

-- What a statement asks, if anything.
abbrev pub act_of : Statement → Registers → Option Act
act_of (Read line register location) registers = Some (Act.Read (cell_of location registers))
act_of (Write line location value) registers = Some (Act.Write (cell_of location registers) (value_of value registers))
act_of (Bump line location value) registers = Some (Act.Bump (cell_of location registers) (value_of value registers))
act_of (Update line reducer value) registers = Some (Act.Update reducer (value_of value registers))
act_of (Put line reducer value) registers = Some (Act.Put reducer (value_of value registers))
act_of (Get line register reducer) registers = Some (Act.Get reducer)
act_of (Spawn line function argument) registers = Some Act.Spawn
act_of (Call line function argument) registers = Some Act.Call
act_of (Sync line) registers = Some Act.Sync
act_of _ registers = None

-- The function that a statement spawns, and its argument.
abbrev pub spawned_by : Statement → Registers → Option Target
spawned_by (Spawn line function argument) registers = Some (record { function = function; argument = value_of argument registers })
spawned_by _ registers = None

-- The registers after an answer. Nothing where the answer does not belong to the statement, or the statement is a call.
abbrev pub answered : Statement → Answer → Registers → Option Registers
answered (Read line register location) answer registers = after_read register answer registers
answered (Write line location value) answer registers = after_write answer registers
answered (Bump line location value) answer registers = after_write answer registers
answered (Update line reducer value) answer registers = after_update answer registers
answered (Put line reducer value) answer registers = after_write answer registers
answered (Get line register reducer) answer registers = after_get register answer registers
answered (Spawn line function argument) answer registers = after_spawn answer registers
answered (Sync line) answer registers = after_sync answer registers
answered _ answer registers = None

-- What is asked where this is left of a function: a return where nothing is.
abbrev pub next_act : Tree → Registers → Option Act
next_act Done registers = Some Act.Return
next_act (Step statement rest) registers = act_of statement registers
next_act (Choice line register first second rest) registers = None

-- The line of what is left first, of a function whose `end` has this line.
abbrev pub next_line : Tree → (end_line : ℕ) → ℕ
next_line Done end_line = end_line
next_line (Step statement rest) end_line = line_of statement
next_line (Choice line register first second rest) end_line = line

-- What is left asks this.
pub record Asks (rest : Tree) (end_line : ℕ) (registers : Registers) (want : Want) : Type 0 where
  pub act : next_act rest registers ≡ Some want.act
  pub line : next_line rest end_line ≡ want.line

-- The cells of a statement's location are there, in the largest memory.
abbrev pub is_placed : Statement → Bool
is_placed (Read line register location) = is_located most_cells location
is_placed (Write line location value) = is_located most_cells location
is_placed (Bump line location value) = is_located most_cells location
is_placed _ = true

-- The cell or the reducer of an act is there, where there are so many.
abbrev pub IsNamed : (cells reducers : ℕ) → Act → Type 0
IsNamed cells reducers (Act.Read cell) = cell < cells
IsNamed cells reducers (Act.Write cell value) = cell < cells
IsNamed cells reducers (Act.Bump cell value) = cell < cells
IsNamed cells reducers (Act.Update reducer value) = reducer < reducers
IsNamed cells reducers (Act.Put reducer value) = reducer < reducers
IsNamed cells reducers (Act.Get reducer) = reducer < reducers
IsNamed cells reducers _ = Unit {0}

-- The function that a statement begins is there, where there are so many.
abbrev pub IsTargeted : (functions : ℕ) → Statement → Type 0
IsTargeted functions (Spawn line function argument) = function < functions
IsTargeted functions (Call line function argument) = function < functions
IsTargeted functions _ = Unit {0}
