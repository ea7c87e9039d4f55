use Rattle.std.proofs.Common.{◌≡◌, ◌%◌, ◌/◌}
use Rattle.reducer_views.specs.Touched.{column_from}
use Rattle.reducer_views.proofs.touched.find.Given as goal

abbrev pub invariant-loop-number : goal.invariant-loop-number
invariant-loop-number g l = column_from l.slot (l.reducer % 4) l.number ≡ column_from l.first (l.reducer % 4) (l.reducer / 4)

abbrev pub decreases-loop-number : goal.decreases-loop-number
decreases-loop-number g l = l.number
