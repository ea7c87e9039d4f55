use Rattle.std.proofs.Common.{arith}
use Rattle.program_lines.proofs.place.assignee.Goals as goal

pub invariant_of-result : goal.invariant_of-result
invariant_of-result g c = record { in_range = omega arith }
