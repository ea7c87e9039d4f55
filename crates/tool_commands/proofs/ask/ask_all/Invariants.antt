use Rattle.std.proofs.Common.{◌≡◌, ◌++◌, List, length, map}
use Rattle.std.specs.List.{All}
use Rattle.packed_trace.specs.Lines.{lines_left}
use Rattle.model_histories.specs.declared.reply.Reply.{Reply}
use Rattle.race_gate.specs.Shapes.{shape_of}
use Rattle.model_histories.specs.Shapes.{most_entries}
use Rattle.command_streams.specs.Streams.{IsJudgedBy}
use Rattle.tool_commands.specs.Replays.{IsDone}
use Rattle.tool_commands.proofs.ask.ask_all.Given as goal

-- the requests of the lines so far were answered, and the number is that of the last of them
abbrev pub invariant-loop-line : goal.invariant-loop-line
invariant-loop-line g l = record {
  answered : (replies : List Reply) × IsJudgedBy (shape_of l.shape) most_entries (map (λ line. line.request) l.yielded) replies l.gate × All IsDone replies;
  whole : l.trace.lines ≡ l.yielded ++ lines_left l.line-iterator;
  number : l.number ≡ length l.yielded;
}
