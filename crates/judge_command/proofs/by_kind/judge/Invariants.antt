use Rattle.std.proofs.Common.{◌≡◌, ◌++◌, List, map}
use Rattle.packed_trace.specs.Lines.{lines_left}
use Rattle.model_histories.specs.declared.reply.Reply.{Reply}
use Rattle.race_gate.specs.Shapes.{shape_of}
use Rattle.model_histories.specs.States.{opening}
use Rattle.command_streams.specs.Watched.{held, has_failed}
use Rattle.judge_command.specs.StatusFlags.{HasJudged}
use Rattle.judge_command.proofs.by_kind.judge.Given as goal

-- the requests so far were judged, and their replies are told
abbrev pub invariant-loop-line : goal.invariant-loop-line
invariant-loop-line g l = record {
  judged : (replies : List Reply) ×
      HasJudged (opening (shape_of l.shape) l.limit) (map (λ line. line.request) l.yielded) replies l.core l.verdicts
      (g.W.Write.contents (held l.initial.output)) (g.W.Write.contents (held l.output)) (has_failed l.output);
  whole : l.trace.lines ≡ l.yielded ++ lines_left l.line-iterator;
}
