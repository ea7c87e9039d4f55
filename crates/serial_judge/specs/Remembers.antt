-- What a cell remembers.
use Rattle.std.specs.Prelude.{◌≡◌, ◌⊎◌, ◌/◌, ◌%◌, ℕ, zero, suc, IsTrue, List, ◌++◌, ◌∷◌, [], Some, Contains, IfSome, IsSome, ◌↔◌}
use Rattle.model_strands.specs.History.{History}
use Rattle.model_strands.specs.Legal.{Legal}
use Rattle.model_strands.specs.Extensions.{Extends}
use Rattle.model_strands.specs.Dag.{IsParallel}
use Rattle.model_serial_runs.specs.declared.access_kind.AccessKind.{AccessKind}
use Rattle.model_serial_runs.specs.declared.access_kind.AccessKind.TheVariants.{Read, Load, Update, Write}
use Rattle.model_serial_runs.specs.Conflicts.{conflict}
use Rattle.model_serial_runs.specs.Accesses.{Access, Races}
use Rattle.model_serial_runs.specs.Current.{current, IsSerial}
use Rattle.serial_judge.specs.declared.cell.Cell.{Cell}
use Rattle.serial_judge.specs.declared.cell.Race.{Race}
use Rattle.serial_judge.specs.declared.cell.Judged.{Judged}
use Rattle.serial_judge.specs.Judge.{Judge}
use Rattle.serial_judge.specs.Numbers.{numbered}
use Rattle.serial_judge.specs.Runs.{Run, with_record}
use Rattle.serial_judge.specs.Follows.{Follows}

-- the number names a record of an access of the list, of this kind
pub record Names (records : List Access) (accesses : List Access) (kind : AccessKind) (number : ℕ) (access : Access) : Type 0 where
  pub is : numbered records number ≡ Some access
  pub listed : Contains accesses access
  pub kind_is : access.kind ≡ kind

-- it names such a record, or is 0
abbrev pub IsKept : List Access → List Access → AccessKind → ℕ → Type 0
IsKept records accesses kind number = (number ≡ 0) ⊎ ((access : Access) × Names records accesses kind number access)

-- the kind of the last plain access
abbrev pub latest_kind : ℕ → AccessKind
latest_kind zero = Read
latest_kind (suc _) = Write

-- of a cell, the access that it keeps of this kind
abbrev pub kept_number : Cell → AccessKind → ℕ
kept_number cell Read = cell.reader
kept_number cell Load = cell.loader
kept_number cell Update = cell.updater
kept_number cell Write = cell.writer

-- what conflicts with the one kind conflicts with the other
abbrev pub IsAsStrong : AccessKind → AccessKind → Type 0
IsAsStrong kept kind = (other : AccessKind) → IsTrue (conflict kind other) → IsTrue (conflict kept other)

-- an access that is kept, and that stands for this kind of access
pub record StandsFor (records : List Access) (cell : Cell) (kind : AccessKind) (access : Access) : Type 0 where
  pub is : numbered records (kept_number cell access.kind) ≡ Some access
  pub strong : IsAsStrong access.kind kind

-- wherever the run goes on from here, if the strand is parallel to the one at which it is, so is one of an access that is kept and stands for
-- the kind
abbrev pub IsCovered : Run → Cell → Access → Type 0
IsCovered run cell access =
    (later : History) → Extends later run.history → Legal later → IsSerial later → IsParallel later access.strand (current later) →
    (kept : Access) × StandsFor run.records cell access.kind kept × IsParallel later kept.strand (current later)

-- the cell remembers the accesses
pub record Remembers (run : Run) (cell : Cell) (accesses : List Access) : Type 0 where
  -- what it keeps are records of accesses of the list
  pub kept : (kind : AccessKind) → IsKept run.records accesses kind (kept_number cell kind)
  pub latest : IsKept run.records accesses (latest_kind (cell.latest % 2)) (cell.latest / 2)
  -- and they stand for all accesses of the list
  pub covered : (access : Access) → Contains accesses access → IsCovered run cell access

-- a new access of the running strand
abbrev pub new_access : Run → AccessKind → ℕ → Access
new_access run kind site = record { strand = current run.history; site = site; kind = kind }

-- the run with a record of the access, which may be there already
abbrev pub IsRecorded : Run → Access → Run → Type 0
IsRecorded run access after = (after ≡ run) ⊎ (after ≡ with_record access run)

-- the race names an access of the list that races with a new one of this strand and kind
pub record IsTrueWitness (run : Run) (accesses : List Access) (kind : AccessKind) (race : Race) : Type 0 where
  pub access : Access
  pub listed : Contains accesses access
  pub races : Races run.history (current run.history) kind access
  pub record_is : numbered run.records race.«record» ≡ Some access
  pub site_is : race.site ≡ access.site
  pub kind_is : race.kind ≡ access.kind

-- what is said of an access by the running strand of a location whose cell remembers the accesses
pub record IsJudged (run after : Run) (accesses : List Access) (kind : AccessKind) (site : ℕ) (judged : Judged) : Type 0 where
  pub exact : IsSome judged.race ↔ ((access : Access) × Contains accesses access × Races run.history (current run.history) kind access)
  pub witness : IfSome judged.race (IsTrueWitness run accesses kind)
  pub remembers : Remembers after judged.cell (accesses ++ new_access run kind site ∷ [])

-- what is said of an access by the running strand of a location with this cell, and which run the judge follows then
pub record IsTaken (run : Run) (judge : Judge) (cell : Cell) (kind : AccessKind) (site : ℕ) (judged : Judged) : Type 0 where
  -- the run with a record of the access
  pub after : Run
  pub recorded : IsRecorded run (new_access run kind site) after
  pub follows : Follows judge after
  pub judges : (accesses : List Access) → Remembers run cell accesses → IsJudged run after accesses kind site judged

-- what is said of an access that need not be told
pub record IsRepetition (run : Run) (cell : Cell) (accesses : List Access) (kind : AccessKind) : Type 0 where
  -- an earlier access of the same strand
  pub earlier : Access
  pub listed : Contains accesses earlier
  pub own : earlier.strand ≡ current run.history
  -- what races with the new one races with that one
  pub strong : (access : Access) → Races run.history (current run.history) kind access → Races run.history (current run.history) earlier.kind access
  -- and the cell remembers the new one as it is
  pub remembers : (site : ℕ) → Remembers run cell (accesses ++ new_access run kind site ∷ [])
