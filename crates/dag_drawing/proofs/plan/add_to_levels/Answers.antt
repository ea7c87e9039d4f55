use Rattle.std.proofs.Common.{arith, refl}
use Rattle.std.proofs.lemmas.Grind.{common_steps}
use Rattle.dag_drawing.specs.Plans.{counts_by, columns_by}
use Rattle.dag_drawing.proofs.Loops.{at_last}
use Rattle.dag_drawing.proofs.plan.add_to_levels.Goals as goal

pub loop-strand-preserved : goal.loop-strand-preserved
loop-strand-preserved c = grind (arith, common_steps)

pub loop-strand-init : goal.loop-strand-init
loop-strand-init c = (refl, refl)

pub returns : goal.returns
returns c = record {
  counts = at_last (counts_by c.args.depths.now c.loop-strand.counts.items) _ _ _ c.loop-strand-test.false c.loop-strand.invariant.0;
  columns =
      at_last (columns_by c.args.depths.now c.loop-strand.counts.items c.loop-strand.columns.items) _ _ _ c.loop-strand-test.false
      c.loop-strand.invariant.1;
}
