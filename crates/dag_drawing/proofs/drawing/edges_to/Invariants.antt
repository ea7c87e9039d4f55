use Rattle.std.proofs.Common.{◌≡◌, ◌++◌, drop, filter}
use Rattle.dag_drawing.specs.Drawn.{has_mark}
use Rattle.dag_drawing.proofs.drawing.edges_to.Given as goal

-- the edges kept so far and those to be kept are all that lead to marked numbers
abbrev pub invariant-loop-edge : goal.invariant-loop-edge
invariant-loop-edge l = l.kept.items ++ filter (has_mark l.marks) (drop l.edge-index l.edges) ≡ filter (has_mark l.marks) l.edges
