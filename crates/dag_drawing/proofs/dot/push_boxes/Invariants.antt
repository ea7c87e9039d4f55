use Rattle.std.proofs.Common.{drop}
use Rattle.dag_drawing.specs.Labels.{naming_of}
use Rattle.dag_drawing.specs.Dots.{boxes_text}
use Rattle.dag_drawing.proofs.Pushed.{Completes}
use Rattle.dag_drawing.proofs.dot.push_boxes.Given as goal

-- with what is left behind what is written, the whole is added
abbrev pub invariant-loop-strand : goal.invariant-loop-strand
invariant-loop-strand l = Completes l.initial.text l.text (boxes_text (naming_of l.names) (drop l.strand-index l.strands) l.rest) (boxes_text (naming_of l.names) l.strands l.initial.rest)
