use Rattle.std.proofs.Common.{◌≡◌, ◌++◌, map}
use Rattle.packed_trace.specs.Lines.{lines_left}
use Rattle.trace_text.specs.Traces.{contents}
use Rattle.command_streams.specs.Streams.{declared_shape}
use Rattle.tool_commands.proofs.CleanSoFar.{IsCleanSoFar}
use Rattle.tool_commands.proofs.clean.clean_count.Given as goal

-- the requests of the lines so far were answered, and none was refused
abbrev pub invariant-loop-line : goal.invariant-loop-line
invariant-loop-line l = record {
  clean : IsCleanSoFar (declared_shape (contents l.trace)) (map (λ line. line.request) l.yielded) l.core;
  whole : l.trace.lines ≡ l.yielded ++ lines_left l.line-iterator;
}
