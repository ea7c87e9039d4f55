-- Which histories with the accesses of all reducers are legal.
use Rattle.std.specs.Prelude.{[], ◌∷◌}
use Rattle.model_reducers.specs.Steps.{control, update, put, other, Steps}
use Rattle.model_strands.specs.History.{History}
use Rattle.model_strands.specs.Strands.{Running}
use Rattle.model_strands.specs.Legal.{Allowed}

-- the events among them
abbrev pub control_steps : Steps → History
control_steps [] = []
control_steps (control event ∷ steps) = event ∷ control_steps steps
control_steps (_ ∷ steps) = control_steps steps

-- each event was allowed when it came, and each access is by a strand that ran
abbrev pub AreLegal : Steps → Type 0
AreLegal [] = Unit {0}
AreLegal (control event ∷ steps) = AreLegal steps × Allowed (control_steps steps) event
AreLegal (update strand reducer value ∷ steps) = AreLegal steps × Running (control_steps steps) strand
AreLegal (put strand reducer value ∷ steps) = AreLegal steps × Running (control_steps steps) strand
AreLegal (other strand ∷ steps) = AreLegal steps × Running (control_steps steps) strand
