use Rattle.std.proofs.Common.{◌≡◌, ◌-◌, ◌+◌, true, false, length}
use Rattle.command_streams.specs.Watched.{held, has_failed, calls_of, IsCalledAtMost}
use Rattle.command_streams.specs.Streams.{most_bytes, buffered, TakesPieces}
use Rattle.command_streams.proofs.streams.read_until.Given as goal

-- pieces were read so far, each with a byte at least
abbrev pub invariant-loop-input : goal.invariant-loop-input
invariant-loop-input g l = record {
  taken : TakesPieces l.done 0 (buffered (g.R.Read.remaining (held l.initial.input)) l.initial.text.items)
      (buffered (g.R.Read.remaining (held l.input)) l.text.items) true;
  fresh : has_failed l.input ≡ false;
  count : IsCalledAtMost (length l.text.items - length l.initial.text.items) (calls_of l.initial.input) (calls_of l.input);
}

abbrev pub decreases-loop-input : goal.decreases-loop-input
decreases-loop-input g l = most_bytes - (l.done + length l.text.items)
