use Rattle.std.proofs.Common.{arith}
use Rattle.std.proofs.lemmas.Grind.{common_steps}
use Rattle.dag_drawing.specs.Plans.{depths_by}
use Rattle.dag_drawing.proofs.Loops.{at_last}
use Rattle.dag_drawing.proofs.plan.depths_of.Goals as goal

pub loop-edge-preserved : goal.loop-edge-preserved
loop-edge-preserved c = grind (arith, common_steps)

pub returns : goal.returns
returns c = at_last (depths_by c.loop-edge.depths.items) _ _ _ c.loop-edge-test.false c.loop-edge.invariant
