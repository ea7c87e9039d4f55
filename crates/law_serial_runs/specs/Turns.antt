-- Which strands have been the current one.
use Rattle.std.specs.Prelude.{◌≡◌, ◌⊎◌, ℕ, [], ◌∷◌}
use Rattle.model_strands.specs.History.{Event, waits, ended_joined, History}
use Rattle.model_serial_runs.specs.Current.{current}

-- the strand is the one at which the run is, or was
abbrev pub HasRun : History → ℕ → Type 0
HasRun [] strand = strand ≡ 0
HasRun (event ∷ history) strand = (strand ≡ current (event ∷ history)) ⊎ HasRun history strand

-- no sync waits by the event, and none has waited for it
abbrev pub IsDirect : Event → Type 0
IsDirect (waits strand) = ⊥
IsDirect (ended_joined strand join) = ⊥
IsDirect _ = Unit {0}
