use Rattle.std.proofs.Common.{arith, refl}
use Rattle.std.proofs.lemmas.Grind.{common_steps}
use Rattle.dag_drawing.specs.Labels.{naming_of}
use Rattle.dag_drawing.specs.Plans.{longest_line, most_lines}
use Rattle.dag_drawing.proofs.Loops.{at_last}
use Rattle.dag_drawing.proofs.plan.sizes_of.Goals as goal

pub loop-strand-preserved : goal.loop-strand-preserved
loop-strand-preserved c = grind (arith, common_steps)

pub loop-strand-init : goal.loop-strand-init
loop-strand-init c = (refl, refl)

pub returns : goal.returns
returns c = record {
  length =
      at_last (λ rest. longest_line (naming_of c.args.names.now) c.loop-strand.sizes.length rest c.loop-strand.rest.now) _ _ _ c.loop-strand-test.false
      c.loop-strand.invariant.0;
  lines =
      at_last (λ rest. most_lines (naming_of c.args.names.now) c.loop-strand.sizes.lines rest c.loop-strand.rest.now) _ _ _ c.loop-strand-test.false
      c.loop-strand.invariant.1;
}
