use Rattle.std.proofs.Common.{◌≡◌}
use Rattle.packed_trace.specs.Lines.{lines_left}
use Rattle.trace_text.specs.Traces.{contents}
use Rattle.race_explanations.specs.Illegal.{request_line}
use Rattle.race_explanations.proofs.illegal.request_line.Given as goal

-- the line that is looked for is that of the number that is left, among the lines that are left
abbrev pub invariant-loop-line : goal.invariant-loop-line
invariant-loop-line l = request_line (contents l.trace).lines l.fn.number ≡ request_line (lines_left l.line-iterator) l.left
