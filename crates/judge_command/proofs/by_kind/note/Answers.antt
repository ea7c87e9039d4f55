use Rattle.std.proofs.Common.{ℕ, List, subst}
use Rattle.verdict_lines.specs.VerdictText.{verdict_text}
use Rattle.command_streams.specs.Watched.{held, has_failed}
use Rattle.command_streams.specs.Tellings.{IsTold}
use Rattle.judge_command.proofs.Meeting.{lines_more}
use Rattle.judge_command.proofs.by_kind.note.Goals as goal

pub returns : goal.returns
returns g c wrote replies tells = record {
  lines = subst (λ (text : List ℕ). IsTold wrote (g.W.Write.contents (held c.tell_verdict.new.output)) (has_failed c.tell_verdict.new.output) c.tell_verdict.new.self.text text)
      (lines_more replies c.args.reply.now) (c.tell_verdict.ensures wrote (verdict_text replies) tells.lines);
  met = c.add_reply.ensures replies tells.met;
}
