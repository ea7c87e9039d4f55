use Rattle.std.proofs.Common.{arith, ap}
use Rattle.std.proofs.lemmas.Grind.{common_steps}
use Rattle.std.proofs.lemmas.List.{drop_all}
use Rattle.dag_drawing.specs.Labels.{naming_of}
use Rattle.dag_drawing.specs.Plans.{plan_of}
use Rattle.dag_drawing.specs.Pictures.{races_text}
use Rattle.dag_drawing.proofs.Pushed.{one_part, no_part_left}
use Rattle.dag_drawing.proofs.svg.push_races.Goals as goal

pub loop-number-init : goal.loop-number-init
loop-number-init c = λ end adds. adds

pub loop-number-preserved : goal.loop-number-preserved
loop-number-preserved c =
    one_part _ _ _ _ _ _ _ (grind (arith, common_steps)) c.loop-number.invariant
    c.push_race.ensures

pub returns : goal.returns
returns c = no_part_left _ _ _ _ (ap (races_text (plan_of c.args.layout.now) (naming_of c.args.names.now) c.loop-number.number) (drop_all _ _ c.loop-number-test.false)) c.loop-number.invariant
