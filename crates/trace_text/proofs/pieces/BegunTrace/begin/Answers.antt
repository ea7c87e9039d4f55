use Rattle.std.proofs.Common.{◌≡◌, false, length, take}
use Rattle.std.specs.Prelude.{◌==◌}
use Rattle.trace_text.specs.Drafts.{IsTextFault}
use Rattle.trace_text.proofs.WholeLines.{fault_of_head, some_counted}
use Rattle.trace_text.proofs.pieces.BegunTrace.begin.Goals as goal

pub returns : goal.returns
returns g c rest =
    let end = c.whole_lines-end.result in
    let front = take end c.args.head.now in
    let fault : IsTextFault front c.in-Err.fault = rw c.split_at.ensures.front at c.in-Err.ensures in
    let counted : false ≡ (length front == 0) = rw c.split_at.ensures.front at c.if-is_empty.ensures in
    fault_of_head c.args.head.now rest end c.in-Err.fault c.whole_lines-end.ensures.whole (some_counted front counted) fault
