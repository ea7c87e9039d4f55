use Rattle.std.proofs.Common.{◌≡◌, drop, replicate}
use Rattle.dag_drawing.specs.Plans.{depths_by}
use Rattle.dag_drawing.proofs.plan.depths_of.Given as goal

-- the levels after the edges that are left are those after all
abbrev pub invariant-loop-edge : goal.invariant-loop-edge
invariant-loop-edge l = depths_by l.depths.items (drop l.edge-index l.edges) ≡ depths_by (replicate l.size 0) l.edges
