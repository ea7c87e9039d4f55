use Rattle.std.proofs.Common.{drop}
use Rattle.std.specs.Prelude.{flat_map}
use Rattle.dag_drawing.specs.Labels.{naming_of}
use Rattle.dag_drawing.specs.Dots.{arc_text}
use Rattle.dag_drawing.proofs.Pushed.{Completes}
use Rattle.dag_drawing.proofs.dot.push_races.Given as goal

-- with what is left behind what is written, the whole is added
abbrev pub invariant-loop-race : goal.invariant-loop-race
invariant-loop-race l = Completes l.initial.text l.text (flat_map (arc_text (naming_of l.names)) (drop l.race-index l.races)) (flat_map (arc_text (naming_of l.names)) l.races)
