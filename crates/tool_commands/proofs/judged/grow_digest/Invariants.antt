use Rattle.std.proofs.Common.{◌≡◌, ◌++◌, map}
use Rattle.packed_trace.specs.Lines.{lines_left}
use Rattle.trace_text.specs.Traces.{contents}
use Rattle.command_streams.specs.Streams.{declared_shape}
use Rattle.race_pairs.specs.Digests.{most_of}
use Rattle.tool_commands.proofs.DigestedSoFar.{IsDigestedSoFar}
use Rattle.tool_commands.proofs.judged.grow_digest.Given as goal

-- the requests of the lines so far were answered, and the digest is that of their entries
abbrev pub invariant-loop-line : goal.invariant-loop-line
invariant-loop-line l = record {
  digested : IsDigestedSoFar (declared_shape (contents l.trace)) (map (λ line. line.request) l.yielded) l.last l.core l.digest;
  kept : most_of l.digest ≡ most_of l.initial.digest;
  whole : l.trace.lines ≡ l.yielded ++ lines_left l.line-iterator;
}
