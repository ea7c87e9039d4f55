use Rattle.std.proofs.Common.{◌≡◌, ◌-◌, ◌+◌, min, ℕ, List, false, length}
use Rattle.std.specs.Io.KnownBytes.{Consumes}
use Rattle.command_streams.specs.Watched.{held, has_failed, calls_of, IsCalledAtMost}
use Rattle.command_streams.specs.Streams.{most_bytes, most_reads}
use Rattle.command_streams.proofs.streams.skip_rest.Given as goal

-- so many bytes were read so far, in no more calls
abbrev pub invariant-loop-count : goal.invariant-loop-count
invariant-loop-count g l = record {
  taken : (more : List ℕ) × Consumes (g.R.Read.remaining (held l.initial.input)) (g.R.Read.remaining (held l.input)) more × (l.count ≡ l.done + length more);
  fresh : has_failed l.input ≡ false;
  calls : IsCalledAtMost (min (l.count - l.done) (most_reads - l.done)) (calls_of l.initial.input) (calls_of l.input);
}

abbrev pub decreases-loop-count : goal.decreases-loop-count
decreases-loop-count g l = most_bytes + 1 - l.count
