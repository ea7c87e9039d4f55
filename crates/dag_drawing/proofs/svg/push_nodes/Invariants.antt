use Rattle.std.proofs.Common.{drop}
use Rattle.dag_drawing.specs.Labels.{naming_of}
use Rattle.dag_drawing.specs.Plans.{plan_of}
use Rattle.dag_drawing.specs.Pictures.{nodes_text}
use Rattle.dag_drawing.proofs.Pushed.{Completes}
use Rattle.dag_drawing.proofs.svg.push_nodes.Given as goal

-- with what is left behind what is written, the whole is added
abbrev pub invariant-loop-strand : goal.invariant-loop-strand
invariant-loop-strand l = Completes l.initial.text l.text (nodes_text (plan_of l.layout) (naming_of l.names) (drop l.strand-index l.strands) l.rest) (nodes_text (plan_of l.layout) (naming_of l.names) l.strands l.initial.rest)
