use Rattle.std.proofs.Common.{◌≡◌, ◌++◌, drop}
use Rattle.dag_drawing.specs.Drawn.{marked_from}
use Rattle.dag_drawing.proofs.drawing.collect_marked.Given as goal

-- the marked numbers so far and those that are left are all of them
abbrev pub invariant-loop-strand : goal.invariant-loop-strand
invariant-loop-strand l = l.strands.items ++ marked_from l.strand (drop l.strand l.marks) ≡ marked_from 0 l.marks
