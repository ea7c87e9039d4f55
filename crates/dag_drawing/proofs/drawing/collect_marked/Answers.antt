use Rattle.std.proofs.Common.{arith, refl}
use Rattle.std.proofs.lemmas.Grind.{common_steps}
use Rattle.dag_drawing.specs.Drawn.{marked_from}
use Rattle.dag_drawing.proofs.Loops.{at_end}
use Rattle.dag_drawing.proofs.Drawn.{marked_here, marked_later}
use Rattle.dag_drawing.proofs.drawing.collect_marked.Goals.{then-begun+in_ok-push, else-begun}
use Rattle.dag_drawing.proofs.drawing.collect_marked.Goals as goal

pub loop-strand-preserved : goal.loop-strand-preserved
loop-strand-preserved c = elim c.if-begun.branch [
  | then-begun+in_ok-push w ↦ grind (arith, common_steps, marked_here)
  | else-begun w ↦ grind (arith, common_steps, marked_later)
]

pub returns : goal.returns
returns c = at_end (marked_from c.loop-strand.strand) _ _ _ _ refl c.loop-strand-test.false c.loop-strand.invariant
