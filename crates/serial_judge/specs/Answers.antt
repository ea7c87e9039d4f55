-- What is answered of an access, by the spans and the records of a judge.
use Rattle.std.specs.Prelude.{◌≡◌, ◌≢◌, ◌⊎◌, ◌+◌, ◌*◌, ℕ, true, false, IsTrue, List, Some, IfSome, is_some, if◌then◌else◌}
use Rattle.model_serial_runs.specs.declared.access_kind.AccessKind.{AccessKind}
use Rattle.model_serial_runs.specs.declared.access_kind.AccessKind.TheVariants.{Read, Write}
use Rattle.model_serial_runs.specs.Conflicts.{conflict}
use Rattle.serial_judge.specs.declared.cell.Cell.{Cell}
use Rattle.serial_judge.specs.declared.cell.Race.{Race}
use Rattle.serial_judge.specs.declared.cell.Judged.{Judged}
use Rattle.serial_judge.specs.declared.records.Record.{Record}
use Rattle.serial_judge.specs.declared.spans.Span.{Span}
use Rattle.serial_judge.specs.Numbers.{numbered}
use Rattle.serial_judge.specs.Spans.{is_held}
use Rattle.serial_judge.specs.Remembers.{kept_number}

-- the race is with the access of the record with this number
pub record IsRaceAt (records : List Record) (number : ℕ) (race : Race) : Type 0 where
  pub record_is : race.«record» ≡ number
  pub is : numbered records number ≡ Some (record { site = race.site; kind = race.kind })

-- the last plain access, behind an access of this kind with this record
abbrev pub IsLatest : AccessKind → ℕ → ℕ → ℕ → Type 0
IsLatest Read number old new = new ≡ 2 * number
IsLatest Write number old new = new ≡ 2 * number + 1
IsLatest kind number old new = new ≡ old

-- what is kept of another kind stays, or a write takes it away where it is not held
abbrev pub StaysOrGoes : List Span → AccessKind → ℕ → ℕ → Type 0
StaysOrGoes spans kind old new = (new ≡ old) ⊎ ((kind ≡ Write) × (is_held spans old ≡ false) × (new ≡ 0))

pub record IsAnswer (spans : List Span) (records : List Record) (cell : Cell) (kind : AccessKind) (number : ℕ) (judged : Judged) : Type 0 where
  -- a race is one with what is kept of a conflicting kind
  pub found : is_some judged.race ≡ true → (kept : AccessKind) × IsTrue (conflict kept kind) × (is_held spans (kept_number cell kept) ≡ true)
      × IfSome judged.race (IsRaceAt records (kept_number cell kept))
  pub all_found : (kept : AccessKind) → IsTrue (conflict kept kind) → is_held spans (kept_number cell kept) ≡ true → is_some judged.race ≡ true
  -- what is kept of its kind stays where it is held, and else is the new one
  pub own : kept_number judged.cell kind ≡ (if is_held spans (kept_number cell kind) then kept_number cell kind else number)
  pub others : (kept : AccessKind) → kept ≢ kind → StaysOrGoes spans kind (kept_number cell kept) (kept_number judged.cell kept)
  pub latest : IsLatest kind number cell.latest judged.cell.latest
