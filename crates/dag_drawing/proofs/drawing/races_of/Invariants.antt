use Rattle.std.proofs.Common.{◌≡◌, ◌++◌, drop}
use Rattle.dag_drawing.specs.Told.{races_behind, races_told}
use Rattle.dag_drawing.proofs.drawing.races_of.Given as goal

-- those so far and those among the entries that are left are all of them
abbrev pub invariant-loop-before : goal.invariant-loop-before
invariant-loop-before l = l.found.items ++ races_behind l.before (drop l.before l.entries) ≡ races_told l.entries
