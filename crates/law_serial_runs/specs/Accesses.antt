-- The accesses of a location of a C program, as the gate sees them: on two cells, since an atomic load conflicts with plain writes alone and a
-- plain read with atomic updates too.
use Rattle.std.specs.Prelude.{◌≡◌, ◌⊎◌, ℕ, suc, ◌*◌, List, [], ◌∷◌, Option, Some, None, Contains}
use Rattle.model_strands.specs.History.{History}
use Rattle.model_accesses.specs.declared.kind.Kind.{Kind}
use Rattle.model_accesses.specs.declared.kind.Kind.TheVariants as kind
use Rattle.model_accesses.specs.declared.kind.Rule.TheVariants.{Race}
use Rattle.model_accesses.specs.Table.{rule_between}
use Rattle.model_accesses.specs.declared.request.Act.TheVariants as act
use Rattle.model_histories.specs.declared.answer.Entry.{Entry}
use Rattle.model_histories.specs.Entries.{Entries, control_part}
use Rattle.model_races.specs.Accesses.{cell_access}
use Rattle.law_traces.specs.Locations.{access_of}
use Rattle.model_serial_runs.specs.declared.access_kind.AccessKind.{AccessKind}
use Rattle.model_serial_runs.specs.declared.access_kind.AccessKind.TheVariants.{Read, Load, Update, Write}
use Rattle.model_serial_runs.specs.Accesses.{Access, Races}

-- the two cells of a location
abbrev pub first_cell : ℕ → ℕ
first_cell location = 2 * location

abbrev pub second_cell : ℕ → ℕ
second_cell location = suc (2 * location)

-- what an access is on the first of them: all but a load is one there
abbrev pub on_first : AccessKind → Option Kind
on_first Read = Some kind.Read
on_first Load = None
on_first Update = Some kind.Bump
on_first Write = Some kind.Write

-- and on the second: a load and a write are one there
abbrev pub on_second : AccessKind → Option Kind
on_second Read = None
on_second Load = Some kind.Read
on_second Update = None
on_second Write = Some kind.Write

-- both are there, and come under the rule of races
abbrev pub AreRacing : Option Kind → Option Kind → Type 0
AreRacing (Some old) (Some new) = rule_between old new ≡ Race
AreRacing _ _ = ⊥

-- an access, with the control history before which it came
pub record Moment : Type 0 where
  pub history : History
  pub access : Access

abbrev pub moment : Entries → ℕ → ℕ → AccessKind → Moment
moment entries strand site kind =
    record { history = control_part entries; access = record { strand = strand; site = site; kind = kind } }

-- the entry is no access of the cell
abbrev pub IsElsewhere : Entry → ℕ → Type 0
IsElsewhere entry cell = (kind : Kind) → cell_access entry.request.act ≡ Some (access_of kind cell) → ⊥

-- The entries ask, granted or refused, for just these accesses of the location, the newest first.
pub data Tells (location : ℕ) : Entries → List Moment → Type 0 where
  told_nothing : Tells location [] []
  told_elsewhere : {entries : Entries} {moments : List Moment} {entry : Entry} → Tells location entries moments →
      IsElsewhere entry (first_cell location) → IsElsewhere entry (second_cell location) → Tells location (entry ∷ entries) moments
  told_read : {entries : Entries} {moments : List Moment} {entry : Entry} {site : ℕ} → Tells location entries moments →
      entry.request.act ≡ act.Read (first_cell location) →
      Tells location (entry ∷ entries) (moment entries entry.request.strand site Read ∷ moments)
  told_load : {entries : Entries} {moments : List Moment} {entry : Entry} {site : ℕ} → Tells location entries moments →
      entry.request.act ≡ act.Read (second_cell location) →
      Tells location (entry ∷ entries) (moment entries entry.request.strand site Load ∷ moments)
  told_update : {entries : Entries} {moments : List Moment} {entry : Entry} {site value : ℕ} → Tells location entries moments →
      entry.request.act ≡ act.Bump (first_cell location) value →
      Tells location (entry ∷ entries) (moment entries entry.request.strand site Update ∷ moments)
  -- a write is two entries, one directly behind the other
  told_write : {entries : Entries} {moments : List Moment} {entry second : Entry} {site value other_value : ℕ} → Tells location entries moments →
      entry.request.act ≡ act.Write (first_cell location) value → second.request.act ≡ act.Write (second_cell location) other_value →
      second.request.strand ≡ entry.request.strand →
      Tells location (second ∷ entry ∷ entries) (moment entries entry.request.strand site Write ∷ moments)

-- one of them races with an earlier one when it comes
abbrev pub HasRaceAmong : List Moment → Type 0
HasRaceAmong [] = ⊥
HasRaceAmong (new ∷ moments) =
    ((earlier : Moment) × Contains moments earlier × Races new.history new.access.strand new.access.kind earlier.access) ⊎ HasRaceAmong moments
