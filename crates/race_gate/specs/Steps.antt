-- What the gate's steps do to the strands, to the shadow history and to memory.
use Rattle.std.specs.Prelude.{◌≡◌, ◌↔◌, ◌<◌, ◌+◌, ◌%◌, ◌^◌, ◌==◌, ℕ, List, ◌∷◌, ◌++◌}
use Rattle.std.specs.Prelude.{length, slice_index, Some, None, Option, if◌then◌else◌}
use Rattle.std.specs.Option.{option_to_list}
use Rattle.model_accesses.specs.declared.request.Act.{Act}
use Rattle.model_strands.specs.History.{Event, History}
use Rattle.sp_labels.specs.Roster.{Roster, Follows}
use Rattle.shadow_history.specs.declared.cell.Cell.{Cell}
use Rattle.model_accesses.specs.Accesses.{Access}
use Rattle.shadow_history.specs.Shadow.{Remembers}
use Rattle.model_races.specs.declared.access.CellAccess.{CellAccess}
use Rattle.model_histories.specs.declared.answer.Answer.{Answer}
use Rattle.model_histories.specs.Entries.{event_between}
use Rattle.model_histories.specs.Legal.{Belongs}
use Rattle.model_races.specs.Accesses.{is_granted}
use Rattle.model_races.specs.Races.{HasRace, IsTrueWitness}
use Rattle.model_races.specs.Memory.{CellEffect, sets, adds, leaves}
use Rattle.model_races.specs.Verdicts.{IsRefused, IfRefused}
use Rattle.race_gate.specs.Books.{Books, OptionKeepsSome}

-- the strands follow some history, and the books are of steps with it
abbrev pub FollowsWith : Roster → Option Books → Type 0
FollowsWith strands books = (history : History) × Follows strands history × OptionKeepsSome books history

-- the act and its answer are an event, with which the history goes on
pub record GoesOn (history : History) (strand : ℕ) (act : Act) (answer : Answer) (strands : Roster) : Type 0 where
  pub belongs : Belongs act answer
  pub event : Event
  pub is : event_between strand act answer ≡ Some event
  pub follows : Follows strands (event ∷ history)

-- the access, if it was granted
abbrev pub if_granted : Answer → Access → Option Access
if_granted answer access = if is_granted answer then Some access else None

-- the kind and the cell of an access
abbrev pub cell_part : Access → CellAccess
cell_part access = record { kind = access.kind; location = access.location }

-- the access by this strand, whose entry has this number
abbrev pub numbered_access : (number strand : ℕ) → CellAccess → Access
numbered_access number strand access = record { strand = strand; kind = access.kind; location = access.location; entry = number }

-- the answer is right by these accesses, and they go on with this one if it was granted
pub record IsJudgedBy (history : History) (accesses : List Access) (access : Access) (answer : Answer) (shadow : List Cell) : Type 0 where
  pub refused : IsRefused answer ↔ HasRace history accesses access.strand (cell_part access)
  pub witness : IfRefused answer (IsTrueWitness history accesses access.strand (cell_part access))
  pub remembers : Remembers shadow history (accesses ++ option_to_list (if_granted answer access))

-- what a cell holds after an effect, by what it held before
abbrev pub after : CellEffect → ℕ → ℕ → ℕ
after (sets location value) cell held = if location == cell then value % 2 ^ 64 else held
after (adds location value) cell held = if location == cell then (held + value) % 2 ^ 64 else held
after leaves cell held = held

-- the effect took place
pub record TakesPlace (effect : CellEffect) (old new : List ℕ) : Type 0 where
  pub len : length new ≡ length old
  pub each : (cell : ℕ) → cell < length old → slice_index new cell ≡ after effect cell (slice_index old cell)
