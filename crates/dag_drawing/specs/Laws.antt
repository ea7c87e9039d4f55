-- What holds of all control histories.
use Rattle.std.specs.Prelude.{◌↔◌, ℕ}
use Rattle.model_strands.specs.History.{History}
use Rattle.model_strands.specs.Dag.{Edge}
use Rattle.dag_drawing.specs.declared.drawing.EdgeKind.{EdgeKind}
use Rattle.dag_drawing.specs.Arrows.{EdgeOf}

-- an edge of the dag is one of its kinds, and each edge of a kind is one of the dag
abbrev pub EdgesLaw : Type 0
EdgesLaw = (history : History) (strand other : ℕ) → Edge history strand other ↔ ((kind : EdgeKind) × EdgeOf kind history strand other)
