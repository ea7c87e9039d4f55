use Rattle.std.proofs.Common.{drop, map}
use Rattle.std.specs.Prelude.{flat_map, string_bytes}
use Rattle.dag_drawing.specs.Dots.{line_text}
use Rattle.dag_drawing.proofs.Pushed.{Completes}
use Rattle.dag_drawing.proofs.dot.push_lines.Given as goal

-- with what is left behind what is written, the whole is added
abbrev pub invariant-loop-line : goal.invariant-loop-line
invariant-loop-line l = Completes l.initial.text l.text (flat_map line_text (map string_bytes (drop l.line-index l.lines))) (flat_map line_text (map string_bytes l.lines))
