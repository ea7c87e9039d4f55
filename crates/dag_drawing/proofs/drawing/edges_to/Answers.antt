use Rattle.std.proofs.Common.{arith, refl}
use Rattle.std.proofs.lemmas.Grind.{common_steps}
use Rattle.std.specs.Prelude.{filter}
use Rattle.dag_drawing.specs.Drawn.{has_mark}
use Rattle.dag_drawing.proofs.Loops.{at_end}
use Rattle.dag_drawing.proofs.drawing.edges_to.Goals as goal

pub loop-edge-preserved : goal.loop-edge-preserved
loop-edge-preserved c = grind (arith, common_steps)

pub returns : goal.returns
returns c = at_end (filter (has_mark c.args.marks.now)) _ _ _ _ refl c.loop-edge-test.false c.loop-edge.invariant
