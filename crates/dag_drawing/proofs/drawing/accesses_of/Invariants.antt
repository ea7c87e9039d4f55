use Rattle.std.proofs.Common.{◌≡◌, ◌++◌, drop}
use Rattle.dag_drawing.specs.Told.{accesses_behind, accesses_told}
use Rattle.dag_drawing.proofs.drawing.accesses_of.Given as goal

-- those so far and those among the entries that are left are all of them
abbrev pub invariant-loop-before : goal.invariant-loop-before
invariant-loop-before l = l.found.items ++ accesses_behind l.before (drop l.before l.entries) ≡ accesses_told l.entries
