use Rattle.std.proofs.Common.{arith, ap}
use Rattle.std.proofs.lemmas.Grind.{common_steps}
use Rattle.std.proofs.lemmas.List.{drop_all}
use Rattle.dag_drawing.specs.Labels.{naming_of}
use Rattle.dag_drawing.specs.Plans.{plan_of}
use Rattle.dag_drawing.specs.Pictures.{nodes_text}
use Rattle.dag_drawing.proofs.Pushed.{one_part, no_part_left}
use Rattle.dag_drawing.proofs.svg.push_nodes.Goals as goal

pub loop-strand-init : goal.loop-strand-init
loop-strand-init c = λ end adds. adds

pub loop-strand-preserved : goal.loop-strand-preserved
loop-strand-preserved c =
    one_part _ _ _ _ _ _ _ (grind (arith, common_steps)) c.loop-strand.invariant
    c.push_node.ensures

pub returns : goal.returns
returns c = no_part_left _ _ _ _ (ap (λ rest. nodes_text (plan_of c.args.layout.now) (naming_of c.args.names.now) rest c.loop-strand.rest.now) (drop_all _ _ c.loop-strand-test.false)) c.loop-strand.invariant
