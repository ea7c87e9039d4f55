use Rattle.std.proofs.Common.{drop}
use Rattle.dag_drawing.specs.Texts.{escaped}
use Rattle.dag_drawing.proofs.Pushed.{Completes}
use Rattle.dag_drawing.proofs.dot.push_escaped.Given as goal

-- with what is left behind what is written, the whole is added
abbrev pub invariant-loop-byte : goal.invariant-loop-byte
invariant-loop-byte l = Completes l.initial.text l.text (escaped (drop l.byte-index l.byte-items)) (escaped l.byte-items)
