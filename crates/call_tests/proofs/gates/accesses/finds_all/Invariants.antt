use Rattle.std.proofs.Common.{◌≤◌, length}
use Rattle.shadow_history.specs.Shadow.{StandsOn}
use Rattle.call_tests.proofs.gates.accesses.finds_all.Given as goal

abbrev pub invariant-loop-strand : goal.invariant-loop-strand
invariant-loop-strand g l = StandsOn l.shadow l.strands × (2 ≤ length l.shadow)
