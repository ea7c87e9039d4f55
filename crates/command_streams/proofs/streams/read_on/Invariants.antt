use Rattle.std.proofs.Common.{◌≡◌, ◌-◌, ◌+◌, ◌≤◌, ◌<◌, false, length}
use Rattle.command_streams.specs.Watched.{held, has_failed, calls_of, IsCalledAtMost}
use Rattle.command_streams.specs.Streams.{most_bytes}
use Rattle.command_streams.proofs.Reading.{IsReadOn}
use Rattle.command_streams.proofs.streams.read_on.Given as goal

-- so many bytes were taken, and the others wait
abbrev pub invariant-loop-text : goal.invariant-loop-text
invariant-loop-text g l = record {
  read : IsReadOn l.head (g.R.Read.remaining (held l.initial.input)) (g.R.Read.remaining (held l.input)) l.count l.begun l.text.items;
  short : l.count + length l.text.items ≤ most_bytes;
  size : length l.text.items < l.size;
  fresh : has_failed l.input ≡ false;
  grown : length l.head ≤ l.count + length l.text.items;
  calls : IsCalledAtMost ((l.count + length l.text.items) - length l.head) (calls_of l.initial.input) (calls_of l.input);
}

abbrev pub decreases-loop-text : goal.decreases-loop-text
decreases-loop-text g l = most_bytes - (l.count + length l.text.items)
