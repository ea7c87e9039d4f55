use Rattle.std.proofs.Common.{arith}
use Rattle.packed_trace.specs.Lines.{lines_left}
use Rattle.trace_text.proofs.Passing.{passes}
use Rattle.trace_text.proofs.print.behind_first.Goals as goal

pub loop-passed-preserved : goal.loop-passed-preserved
loop-passed-preserved c = (
  omega arith,
  passes (lines_left c.args.lines) c.loop-passed.passed (lines_left c.loop-passed.rest) (lines_left c.next.new.self) c.next.result c.loop-passed.invariant.1
      c.next.ensures.steps,
)
