use Rattle.std.proofs.Common.{arith, refl}
use Rattle.std.proofs.lemmas.Grind.{common_steps}
use Rattle.std.specs.Prelude.{map, string_bytes}
use Rattle.dag_drawing.specs.Plans.{longest}
use Rattle.dag_drawing.proofs.Loops.{at_last}
use Rattle.dag_drawing.proofs.plan.longest.Goals as goal

pub loop-line-preserved : goal.loop-line-preserved
loop-line-preserved c = grind (arith, common_steps)

pub loop-line-init : goal.loop-line-init
loop-line-init c = refl

pub returns : goal.returns
returns c = at_last (λ rest. longest c.loop-line.most (map string_bytes rest)) _ _ _ c.loop-line-test.false c.loop-line.invariant
