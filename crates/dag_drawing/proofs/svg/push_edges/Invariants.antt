use Rattle.std.proofs.Common.{drop}
use Rattle.std.specs.Prelude.{flat_map}
use Rattle.dag_drawing.specs.Plans.{plan_of}
use Rattle.dag_drawing.specs.Pictures.{edge_text}
use Rattle.dag_drawing.proofs.Pushed.{Completes}
use Rattle.dag_drawing.proofs.svg.push_edges.Given as goal

-- with what is left behind what is written, the whole is added
abbrev pub invariant-loop-edge : goal.invariant-loop-edge
invariant-loop-edge l = Completes l.initial.text l.text (flat_map (edge_text (plan_of l.layout)) (drop l.edge-index l.edges)) (flat_map (edge_text (plan_of l.layout)) l.edges)
