use Rattle.std.proofs.Common.{drop}
use Rattle.dag_drawing.specs.Labels.{naming_of}
use Rattle.dag_drawing.specs.Plans.{plan_of}
use Rattle.dag_drawing.specs.Pictures.{races_text}
use Rattle.dag_drawing.proofs.Pushed.{Completes}
use Rattle.dag_drawing.proofs.svg.push_races.Given as goal

-- with what is left behind what is written, the whole is added
abbrev pub invariant-loop-number : goal.invariant-loop-number
invariant-loop-number l = Completes l.initial.text l.text (races_text (plan_of l.layout) (naming_of l.names) l.number (drop l.number l.races)) (races_text (plan_of l.layout) (naming_of l.names) 0 l.races)
