use Rattle.std.proofs.Common.{◌≡◌, ◌-◌, ◌+◌, ◌≤◌, false, length}
use Rattle.command_streams.specs.Watched.{held, has_failed, calls_of, IsCalledAtMost}
use Rattle.command_streams.specs.Streams.{most_bytes}
use Rattle.command_streams.specs.PlainTexts.{progress, ReadsRequests}
use Rattle.command_streams.proofs.kept.read_plain.Given as goal

-- so many bytes were taken, and the others wait
abbrev pub invariant-loop-waiting : goal.invariant-loop-waiting
invariant-loop-waiting g l = record {
  reads : ReadsRequests (progress l.initial.begun l.fn.done l.initial.waiting.items (g.R.Read.remaining (held l.initial.input)))
      (progress l.begun l.count l.waiting.items (g.R.Read.remaining (held l.input)));
  short : l.count + length l.waiting.items ≤ most_bytes;
  fresh : has_failed l.input ≡ false;
  grown : l.fn.done + length l.initial.waiting.items ≤ l.count + length l.waiting.items;
  calls : IsCalledAtMost ((l.count + length l.waiting.items) - (l.fn.done + length l.initial.waiting.items)) (calls_of l.initial.input) (calls_of l.input);
}

abbrev pub decreases-loop-waiting : goal.decreases-loop-waiting
decreases-loop-waiting g l = most_bytes - (l.count + length l.waiting.items)
