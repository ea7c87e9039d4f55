-- Which answers belong to an act, and the exchanges that can come next.
use Rattle.std.specs.Prelude.{ℕ, ◌≡◌, Option, Some, None}
use Rattle.model_bodies.specs.declared.statement.Statement.{Statement}
use Rattle.model_bodies.specs.Trees.{Tree, Done, Step}
use Rattle.model_accesses.specs.declared.request.Act.{Act}
use Rattle.model_histories.specs.declared.answer.Answer.{Answer}
use Rattle.model_histories.specs.declared.answer.Answer.TheVariants.{Split, Same, Joined, Waits, Granted, Value, Refused, Unset}
use Rattle.model_programs.specs.declared.target.Target.{Target}
use Rattle.model_programs.specs.Values.{Registers}
use Rattle.model_programs.specs.Answers.{Origin, IsReturned}
use Rattle.model_programs.specs.Exchanges.{Exchange}
use Rattle.model_bodies.specs.Lines.{line_of}
use Rattle.frame_steps.specs.Requests.{spawned_by}
use Rattle.frame_steps.specs.Activations.{asked_act}

abbrev pub IsSplit : Answer → Type 0
IsSplit (Split strands) = Unit {0}
IsSplit _ = ⊥

abbrev pub IsSynced : Answer → Type 0
IsSynced Same = Unit {0}
IsSynced (Joined join) = Unit {0}
IsSynced Waits = Unit {0}
IsSynced _ = ⊥

abbrev pub IsCalled : Answer → Type 0
IsCalled Same = Unit {0}
IsCalled _ = ⊥

abbrev pub IsWritten : Answer → Type 0
IsWritten Granted = Unit {0}
IsWritten (Refused rule witness) = Unit {0}
IsWritten _ = ⊥

abbrev pub IsUpdated : Answer → Type 0
IsUpdated Granted = Unit {0}
IsUpdated _ = ⊥

abbrev pub IsRead : Answer → Type 0
IsRead (Value value) = Unit {0}
IsRead (Refused rule witness) = Unit {0}
IsRead _ = ⊥

abbrev pub IsGot : Answer → Type 0
IsGot (Value value) = Unit {0}
IsGot (Refused rule witness) = Unit {0}
IsGot Unset = Unit {0}
IsGot _ = ⊥

-- The answers that belong to an act. Those of a return go by who began the function.
abbrev pub Belongs : Origin → Act → Answer → Type 0
Belongs origin Act.Spawn answer = IsSplit answer
Belongs origin Act.Sync answer = IsSynced answer
Belongs origin Act.Call answer = IsCalled answer
Belongs origin Act.Return answer = IsReturned origin answer
Belongs origin (Act.Write cell value) answer = IsWritten answer
Belongs origin (Act.Bump cell value) answer = IsWritten answer
Belongs origin (Act.Read cell) answer = IsRead answer
Belongs origin (Act.Update reducer value) answer = IsUpdated answer
Belongs origin (Act.Put reducer value) answer = IsWritten answer
Belongs origin (Act.Get reducer) answer = IsGot answer

-- The line of what is asked before a statement, or before the return.
abbrev pub asked_line : Option Statement → (end_line : ℕ) → ℕ
asked_line None end_line = end_line
asked_line (Some statement) end_line = line_of statement

-- The function that is spawned.
abbrev pub asked_target : Option Statement → Registers → Option Target
asked_target None registers = None
asked_target (Some statement) registers = spawned_by statement registers

-- The exchange is what is asked before this statement, with an answer that belongs to it.
pub record Follows (origin : Origin) (statement : Option Statement) (end_line : ℕ) (registers : Registers) (x : Exchange) : Type 0 where
  pub act : asked_act statement registers ≡ Some x.act
  pub line : asked_line statement end_line ≡ x.line
  pub target : asked_target statement registers ≡ x.target
  pub answer : Belongs origin x.act x.answer

-- The exchange in which a statement's act is answered so.
abbrev pub asked : Act → Statement → Registers → Answer → Exchange
asked act statement registers answer =
    record { act = act; line = line_of statement; target = spawned_by statement registers; answer = answer }

-- What is left before this statement, or before the return.
abbrev pub tree_at : Option Statement → Tree → Tree
tree_at None rest = Done
tree_at (Some statement) rest = Step statement rest
