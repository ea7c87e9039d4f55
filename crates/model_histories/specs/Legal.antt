-- Which histories are legal.
use Rattle.std.specs.Prelude.{[], ◌∷◌, MatchOption}
use Rattle.model_accesses.specs.declared.request.Act.{Act}
use Rattle.model_accesses.specs.declared.request.Act.TheVariants.{Spawn, Sync, Call, Return, Read, Write, Bump, Update, Put, Get}
use Rattle.model_strands.specs.Strands.{Running}
use Rattle.model_strands.specs.Legal.{Allowed}
use Rattle.model_histories.specs.declared.answer.Answer.{Answer}
use Rattle.model_histories.specs.declared.answer.Answer.TheVariants.{Split, Same, Joined, Waits, Resumed, Ended}
use Rattle.model_histories.specs.declared.answer.Answer.TheVariants.{EndedJoined, Finished, Granted, Value, Refused, Unset}
use Rattle.model_histories.specs.declared.answer.Entry.{Entry}
use Rattle.model_histories.specs.Entries.{Entries, event_of, control_part}
use Rattle.model_histories.specs.Shapes.{Shape, IsInRange}

-- the answer is one of those that the act can have
abbrev pub Belongs : Act → Answer → Type 0
Belongs Spawn (Split spawned) = Unit {0}
Belongs Sync Same = Unit {0}
Belongs Sync (Joined join) = Unit {0}
Belongs Sync Waits = Unit {0}
Belongs Call Same = Unit {0}
Belongs Return Resumed = Unit {0}
Belongs Return Ended = Unit {0}
Belongs Return (EndedJoined join) = Unit {0}
Belongs Return Finished = Unit {0}
Belongs (Write location value) Granted = Unit {0}
Belongs (Write location value) (Refused rule witness) = Unit {0}
Belongs (Bump location value) Granted = Unit {0}
Belongs (Bump location value) (Refused rule witness) = Unit {0}
Belongs (Read location) (Value value) = Unit {0}
Belongs (Read location) (Refused rule witness) = Unit {0}
Belongs (Update reducer value) Granted = Unit {0}
Belongs (Put reducer value) Granted = Unit {0}
Belongs (Put reducer value) (Refused rule witness) = Unit {0}
Belongs (Get reducer) (Value value) = Unit {0}
Belongs (Get reducer) (Refused rule witness) = Unit {0}
Belongs (Get reducer) Unset = Unit {0}
Belongs act answer = ⊥

-- the entry may come next
pub record MayFollow (shape : Shape) (entries : Entries) (entry : Entry) : Type 0 where
  -- its strand is running
  pub runs : Running (control_part entries) entry.request.strand
  -- its cell or reducer is there
  pub in_range : IsInRange shape entry.request.act
  -- its answer belongs to its act
  pub belongs : Belongs entry.request.act entry.answer
  -- and a control event is one that the rules of spawn and sync allow
  pub allowed : MatchOption (event_of entry) (Unit {0}) (Allowed (control_part entries))

-- each entry might come when it came
abbrev pub IsLegal : Shape → Entries → Type 0
IsLegal shape [] = Unit {0}
IsLegal shape (entry ∷ entries) = IsLegal shape entries × MayFollow shape entries entry
