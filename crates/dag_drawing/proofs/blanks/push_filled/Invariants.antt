use Rattle.std.proofs.Common.{drop}
use Rattle.dag_drawing.specs.Blanks.{filled}
use Rattle.dag_drawing.proofs.Pushed.{Completes}
use Rattle.dag_drawing.proofs.blanks.push_filled.Given as goal

-- with what is left behind what is written, the whole is added
abbrev pub invariant-loop-byte : goal.invariant-loop-byte
invariant-loop-byte l = Completes l.initial.text l.text (filled (drop l.byte-index l.byte-items) (drop l.next l.numbers)) (filled l.byte-items l.numbers)
