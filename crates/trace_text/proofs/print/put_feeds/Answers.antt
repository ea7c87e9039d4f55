use Rattle.std.proofs.Common.{append_assoc, arith}
use Rattle.trace_text.proofs.Printed.{one_more_feed}
use Rattle.trace_text.proofs.print.put_feeds.Goals as goal

pub loop-preserved : goal.loop-preserved
loop-preserved g c = record {
  most = omega arith;
  same = rw (one_more_feed c.args.from c.loop.counter (omega arith), ← append_assoc, ← c.loop.invariant.same) c.in_ok-push_str.ensures.bytes;
}
