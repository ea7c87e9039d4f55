use Rattle.std.proofs.Common.{arith, refl}
use Rattle.std.proofs.lemmas.Grind.{common_steps}
use Rattle.dag_drawing.specs.Told.{accesses_behind}
use Rattle.dag_drawing.proofs.Loops.{at_end}
use Rattle.dag_drawing.proofs.drawing.accesses_of.Goals as goal

pub loop-before-preserved : goal.loop-before-preserved
loop-before-preserved c = grind (arith, common_steps)

pub returns : goal.returns
returns c = at_end (accesses_behind c.loop-before.before) _ _ _ _ refl c.loop-before-test.false c.loop-before.invariant
