use Rattle.std.proofs.Common.{drop}
use Rattle.std.specs.Prelude.{flat_map}
use Rattle.dag_drawing.specs.Texts.{edge_text}
use Rattle.dag_drawing.proofs.Pushed.{Completes}
use Rattle.dag_drawing.proofs.dot.push_edges.Given as goal

-- with what is left behind what is written, the whole is added
abbrev pub invariant-loop-edge : goal.invariant-loop-edge
invariant-loop-edge l = Completes l.initial.text l.text (flat_map edge_text (drop l.edge-index l.edges)) (flat_map edge_text l.edges)
