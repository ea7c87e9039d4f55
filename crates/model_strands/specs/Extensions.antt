-- Longer histories, and those that are finished.
use Rattle.std.specs.Prelude.{◌≡◌, List, ◌∷◌, ◌++◌}
use Rattle.model_strands.specs.History.{Event, finished, History}

-- the longer history begins with the other, and may be the same
abbrev pub Extends : History → History → Type 0
Extends longer history = (later : List Event) × (later ++ history ≡ longer)

-- its last event is the root function's return
abbrev pub IsFinished : History → Type 0
IsFinished (finished strand ∷ history) = Unit {0}
IsFinished _ = ⊥
