use Rattle.std.proofs.Common.{◌≡◌}
use Rattle.call_tests.proofs.programs.reports.answers.Given as goal

-- the gate keeps its shape
abbrev pub invariant-loop-request : goal.invariant-loop-request
invariant-loop-request l = l.gate.shape ≡ l.initial.gate.shape
