-- Which histories with the accesses of one reducer are legal.
use Rattle.std.specs.Prelude.{[], ◌∷◌}
use Rattle.model_reducers.specs.Items.{Item, control, update, put, other, Items, control_events}
use Rattle.model_strands.specs.History.{History}
use Rattle.model_strands.specs.Strands.{Running}
use Rattle.model_strands.specs.Legal.{Allowed}

-- the item may come next: the event is allowed, or the strand that makes the access runs
abbrev pub IsAllowed : History → Item → Type 0
IsAllowed history (control event) = Allowed history event
IsAllowed history (update strand value) = Running history strand
IsAllowed history (put strand value) = Running history strand
IsAllowed history (other strand) = Running history strand

-- each item was allowed when it came
abbrev pub AreLegalItems : Items → Type 0
AreLegalItems [] = Unit {0}
AreLegalItems (item ∷ items) = AreLegalItems items × IsAllowed (control_events items) item
