use Rattle.std.proofs.Common.{arith, ap}
use Rattle.std.proofs.lemmas.Grind.{common_steps}
use Rattle.std.proofs.lemmas.List.{drop_all}
use Rattle.std.specs.Prelude.{flat_map}
use Rattle.dag_drawing.specs.Labels.{naming_of}
use Rattle.dag_drawing.specs.Dots.{arc_text}
use Rattle.dag_drawing.proofs.Pushed.{one_part, no_part_left}
use Rattle.dag_drawing.proofs.dot.push_races.Goals as goal

pub loop-race-init : goal.loop-race-init
loop-race-init c = λ end adds. adds

pub loop-race-preserved : goal.loop-race-preserved
loop-race-preserved c =
    one_part _ _ _ _ _ _ _ (grind (arith, common_steps)) c.loop-race.invariant
    c.push_race.ensures

pub returns : goal.returns
returns c = no_part_left _ _ _ _ (ap (flat_map (arc_text (naming_of c.args.names.now))) (drop_all _ _ c.loop-race-test.false)) c.loop-race.invariant
