-- Runs of C programs, with the accesses of all their locations, and what the gate answers where it is asked for them.
use Rattle.std.specs.Prelude.{◌≡◌, ◌⊎◌, ◌↔◌, ◌<◌, ◌==◌, ℕ, List, [], ◌∷◌, if◌then◌else◌}
use Rattle.model_strands.specs.History.{Event, History}
use Rattle.model_strands.specs.Strands.{Running}
use Rattle.model_strands.specs.Legal.{Allowed}
use Rattle.model_histories.specs.Entries.{Entries, control_part}
use Rattle.model_histories.specs.Shapes.{Shape}
use Rattle.model_races.specs.Judged.{IsJudged}
use Rattle.law_traces.specs.Locations.{HasRefusal}
use Rattle.model_serial_runs.specs.declared.access_kind.AccessKind.{AccessKind}
use Rattle.law_serial_runs.specs.Accesses.{first_cell, second_cell, Moment, Tells, HasRaceAmong}

-- a control event, or an access of a location by a strand, with its site and its kind
pub data Step : Type 0 where
  controls : Event → Step
  accesses : (location strand site : ℕ) → AccessKind → Step

-- the control history of the steps, the newest first
abbrev pub history_of : List Step → History
history_of [] = []
history_of (controls event ∷ steps) = event ∷ history_of steps
history_of (accesses location strand site kind ∷ steps) = history_of steps

-- each step might come when it came, and there are so many locations
abbrev pub IsRun : ℕ → List Step → Type 0
IsRun locations [] = Unit {0}
IsRun locations (controls event ∷ steps) = IsRun locations steps × Allowed (history_of steps) event
IsRun locations (accesses location strand site kind ∷ steps) =
    IsRun locations steps × (location < locations) × Running (history_of steps) strand

-- the accesses of one location, the newest first
abbrev pub moments_of : List Step → ℕ → List Moment
moments_of [] location = []
moments_of (controls event ∷ steps) location = moments_of steps location
moments_of (accesses own strand site kind ∷ steps) location =
    if own == location
    then record { history = history_of steps; access = record { strand = strand; site = site; kind = kind } } ∷ moments_of steps location
    else moments_of steps location

-- What the gate answers to the steps.
pub record IsAnswered (steps : List Step) : Type 0 where
  pub shape : Shape
  pub entries : Entries
  pub judged : IsJudged shape entries
  pub control : control_part entries ≡ history_of steps
  pub told : (location : ℕ) → Tells location entries (moments_of steps location)
  -- a location has a race exactly where an access on one of its cells is refused
  pub races : (location : ℕ) →
      HasRaceAmong (moments_of steps location) ↔ (HasRefusal entries (first_cell location) ⊎ HasRefusal entries (second_cell location))
