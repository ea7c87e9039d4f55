use Rattle.std.proofs.Common.{arith}
use Rattle.std.proofs.lemmas.Grind.{common_steps}
use Rattle.dag_drawing.proofs.labels.add_accesses.Goals as goal

pub loop-access-preserved : goal.loop-access-preserved
loop-access-preserved c =
    let added = c.in_ok-add_line.ensures _ c.access_line.ensures in
    grind (arith, common_steps, added)
