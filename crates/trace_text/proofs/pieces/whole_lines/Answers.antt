use Rattle.trace_text.proofs.WholeLines.{whole_to}
use Rattle.trace_text.proofs.pieces.whole_lines.Goals as goal

pub returns-else-text-end-ne10-clause-whole : goal.returns-else-text-end-ne10-clause-whole
returns-else-text-end-ne10-clause-whole c =
    whole_to c.args.text.now c.loop-end.end c.loop-end-test.true c.loop-end.invariant c.if-text-end-ne10.false
