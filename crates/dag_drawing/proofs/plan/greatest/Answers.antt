use Rattle.std.proofs.Common.{arith, refl}
use Rattle.std.proofs.lemmas.Grind.{common_steps}
use Rattle.dag_drawing.specs.Plans.{greatest}
use Rattle.dag_drawing.proofs.Loops.{at_last}
use Rattle.dag_drawing.proofs.plan.greatest.Goals as goal

pub loop-number-preserved : goal.loop-number-preserved
loop-number-preserved c = grind (arith, common_steps)

pub loop-number-init : goal.loop-number-init
loop-number-init c = refl

pub returns : goal.returns
returns c = at_last (greatest c.loop-number.most) _ _ _ c.loop-number-test.false c.loop-number.invariant
