-- No spans lie one behind another.
use Rattle.std.proofs.Common.{arith}
use Rattle.serial_judge.proofs.spans.Spans.new.Goals as goal

pub invariant_of-result : goal.invariant_of-result
invariant_of-result g c = rw c.new.ensures.items (1, omega arith)
