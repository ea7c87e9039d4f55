use Rattle.std.proofs.Common.{◌≡◌, ◌≤◌, ◌-◌, drop}
use Rattle.packed_trace.specs.Lines.{lines_left}
use Rattle.trace_text.proofs.print.behind_first.Given as goal

-- so many are passed
abbrev pub invariant-loop-passed : goal.invariant-loop-passed
invariant-loop-passed l = (l.passed ≤ l.count) × (lines_left l.rest ≡ drop l.passed (lines_left l.lines))

abbrev pub decreases-loop-passed : goal.decreases-loop-passed
decreases-loop-passed l = l.count - l.passed
