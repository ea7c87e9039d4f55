-- The reads of a reducer, as the gate sees them: its puts and gets.
use Rattle.std.specs.Prelude.{◌≡◌, ◌≢◌, ◌⊎◌, ℕ, List, [], ◌∷◌, Contains}
use Rattle.model_strands.specs.History.{History}
use Rattle.model_histories.specs.declared.answer.Answer.TheVariants.{Unset}
use Rattle.model_histories.specs.declared.answer.Entry.{Entry}
use Rattle.model_histories.specs.Entries.{Entries, control_part}
use Rattle.law_traces.specs.Locations.{IsReadOf}
use Rattle.model_serial_runs.specs.ReducerReads.{ReducerRead, ViewRaces}

-- a read, with the control history before which it came
pub record ReadMoment : Type 0 where
  pub history : History
  pub read : ReducerRead

abbrev pub read_moment : Entries → (reducer strand site : ℕ) → ReadMoment
read_moment entries reducer strand site =
    record { history = control_part entries; read = record { reducer = reducer; strand = strand; site = site } }

-- The entries ask, granted or refused, for just these reads of the reducer, the newest first. A get of a reducer that was never put reads nothing.
pub data TellsReads (reducer : ℕ) : Entries → List ReadMoment → Type 0 where
  told_no_read : TellsReads reducer [] []
  told_other : {entries : Entries} {moments : List ReadMoment} {entry : Entry} → TellsReads reducer entries moments →
      (IsReadOf entry.request.act reducer → entry.answer ≡ Unset) → TellsReads reducer (entry ∷ entries) moments
  told_reducer_read : {entries : Entries} {moments : List ReadMoment} {entry : Entry} {site : ℕ} → TellsReads reducer entries moments →
      IsReadOf entry.request.act reducer → entry.answer ≢ Unset →
      TellsReads reducer (entry ∷ entries) (read_moment entries reducer entry.request.strand site ∷ moments)

-- one of them sees another view than an earlier one
abbrev pub HasViewRaceAmong : List ReadMoment → Type 0
HasViewRaceAmong [] = ⊥
HasViewRaceAmong (new ∷ moments) =
    ((earlier : ReadMoment) × Contains moments earlier × ViewRaces new.history new.read.strand earlier.read) ⊎ HasViewRaceAmong moments
