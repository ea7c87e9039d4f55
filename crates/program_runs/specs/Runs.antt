-- A finished run of a program within a limit, and why there is none.
use Rattle.std.specs.Prelude.{ℕ, ◌≡◌, ◌<◌, ◌≤◌, ◌⊎◌, ◌↔◌, true, List, length, reverse, IsTrue}
use Rattle.std.specs.List.{All, flat_map}
use Rattle.std.specs.List.Sorted.{IsPermutation}
use Rattle.program_text.specs.declared.program.Program.{Program}
use Rattle.program_text.specs.Shapes.{shape_in}
use Rattle.model_bodies.specs.Codes.{Code}
use Rattle.model_histories.specs.declared.answer.Entry.{Entry}
use Rattle.model_histories.specs.declared.reply.Receipt.{Receipt}
use Rattle.model_histories.specs.Entries.{Entries}
use Rattle.model_histories.specs.Shapes.{Shape}
use Rattle.model_histories.specs.States.{GateState}
use Rattle.model_histories.specs.Extensions.{IsFinished, IsClean}
use Rattle.model_races.specs.Memory.{IsMemory}
use Rattle.model_runs.specs.Runs.{IsRun, IsFinishedRun}
use Rattle.race_gate.specs.States.{IsRight}
use Rattle.locked_replay.specs.declared.fault.RunFault.{RunFault}
use Rattle.locked_replay.specs.declared.fault.RunFault.TheVariants.{Limit, Stopped, Torn, Strange, Memory}
use Rattle.locked_replay.specs.declared.whole.Whole.{Whole}
use Rattle.locked_replay.specs.Receipts.{numbered, Rises}
use Rattle.locked_replay.specs.Strange.{IsStrangeGate}

-- It is a finished run of the program, of at most so many entries. Its memory is that of the run, and it says whether nothing was refused.
pub record IsWholeRun {A B : Type 0} (program : Program A) (limit : ℕ) (whole : Whole B) : Type 0 where
  pub run : IsFinishedRun program.functions (shape_in program) (reverse whole.entries.items)
  pub memory : IsMemory (shape_in program).cells (reverse whole.entries.items) whole.memory.items
  pub clean : IsTrue whole.clean ↔ IsClean (reverse whole.entries.items)
  pub within : length whole.entries.items ≤ limit

-- A run of these functions wants more entries than the limit: it has more, or it has as many and is not at its end.
pub record WantsMore (functions : List Code) (shape : Shape) (limit : ℕ) : Type 0 where
  pub entries : Entries
  pub run : IsRun functions shape entries
  pub more : (limit < length entries) ⊎ (limit ≤ length entries) × (IsFinished entries → ⊥)

-- the receipts of some logs, in each of which they rise in number, are those of the entries, oldest first, each once; and as much was asked
pub record AreReceiptsOf (entries : List Entry) (logs : List (List Receipt)) (asked : ℕ) : Type 0 where
  pub rise : All Rises logs
  pub receipts : IsPermutation (flat_map (λ log. log) logs) (numbered 1 entries)
  pub counted : asked ≡ length entries

-- what was brought back of the gate's entries is something else
pub record IsTornGate (gate : GateState) : Type 0 where
  pub logs : List (List Receipt)
  pub asked : ℕ
  pub torn : AreReceiptsOf (reverse gate.history) logs asked → ⊥

-- Behind the workers stands a gate that is right, and it was stopped, or this is so of it.
pub record IsLeft (P : GateState → Type 0) : Type 0 where
  pub gate : GateState
  pub right : IsRight gate
  pub left : (gate.stopped ≡ true) ⊎ P gate

-- Why there is no finished run of these functions within the limit.
abbrev pub LacksRun : List Code → Shape → (limit : ℕ) → RunFault → Type 0
LacksRun functions shape limit Limit = WantsMore functions shape limit
LacksRun functions shape limit Stopped = IsLeft (λ gate. ⊥)
LacksRun functions shape limit Torn = IsLeft IsTornGate
LacksRun functions shape limit Strange = IsLeft (IsStrangeGate functions shape)
LacksRun functions shape limit Memory = Unit {0}
