use Rattle.std.proofs.Common.{arith}
use Rattle.std.proofs.lemmas.Grind.{common_steps}
use Rattle.dag_drawing.proofs.FirstPlaces.{place_here, place_later}
use Rattle.dag_drawing.proofs.labels.first_place.Goals as goal

pub returns-in-Some : goal.returns-in-Some
returns-in-Some c = grind (arith, common_steps, place_here)

pub loop-access-preserved : goal.loop-access-preserved
loop-access-preserved c = grind (arith, common_steps, place_later)
