use Rattle.std.proofs.Common.{◌≡◌, drop}
use Rattle.dag_drawing.specs.Labels.{naming_of, first_place}
use Rattle.dag_drawing.proofs.labels.first_place.Given as goal

-- none so far has a place
abbrev pub invariant-loop-access : goal.invariant-loop-access
invariant-loop-access l = first_place (naming_of l.names) (drop l.access-index l.own) ≡ first_place (naming_of l.names) l.own
