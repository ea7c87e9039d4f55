use Rattle.std.proofs.Common.{drop, map}
use Rattle.std.specs.Prelude.{string_bytes}
use Rattle.dag_drawing.specs.Pictures.{lines_text}
use Rattle.dag_drawing.proofs.Pushed.{Completes}
use Rattle.dag_drawing.proofs.svg.push_lines.Given as goal

-- with what is left behind what is written, the whole is added
abbrev pub invariant-loop-line : goal.invariant-loop-line
invariant-loop-line l = Completes l.initial.text l.text (lines_text l.most l.left (map string_bytes (drop l.line-index l.lines))) (lines_text l.most l.left (map string_bytes l.lines))
