use Rattle.std.proofs.Common.{sym, ◌∙◌}
use Rattle.std.proofs.lemmas.Result.{err_from_is_err_and}
use Rattle.verdict_lines.specs.VerdictText.{verdict_text}
use Rattle.command_streams.specs.Watched.{held, has_failed}
use Rattle.command_streams.proofs.Buffering.{told_still}
use Rattle.command_streams.proofs.Telling.{told_whole, told_cut}
use Rattle.judge_command.proofs.judge.finish.Goals as goal

pub returns-then-failed-clause-fault : goal.returns-then-failed-clause-fault
returns-then-failed-clause-fault g c wrote replies tells =
    let told = told_still _ _ _ _ _ _ c.write_out.ensures.told wrote (verdict_text replies) tells.lines in
    (told.part, told.rest, told.written, told.whole)

pub returns-in_err-deliver-clause-fault : goal.returns-in_err-deliver-clause-fault
returns-in_err-deliver-clause-fault g c =
    let gone = err_from_is_err_and c.from_residual.result c.from_residual.ensures.1 in
    rw (gone.1, gone.2) (λ wrote replies tells. rw c.in_err-deliver.ensures.fault
    (told_cut wrote (g.W.Write.contents (held c.write_out.new.output)) (g.W.Write.contents (held c.deliver.new.output)) (has_failed c.write_out.new.output)
    c.write_out.new.self.text (verdict_text replies) c.in_err-deliver.ensures.bytes (told_still _ _ _ _ _ _ c.write_out.ensures.told wrote (verdict_text replies) tells.lines)))

pub returns-clause-answered : goal.returns-clause-answered
returns-clause-answered g c wrote replies tells = (
  c.status.ensures replies tells.met,
  told_whole wrote (g.W.Write.contents (held c.write_out.new.output)) (g.W.Write.contents (held c.deliver.new.output)) (has_failed c.write_out.new.output)
      c.write_out.new.self.text (verdict_text replies) (sym c.failed.ensures ∙ c.if-failed.false) c.write_out.ensures.none c.in_ok-deliver.ensures.bytes
      (told_still _ _ _ _ _ _ c.write_out.ensures.told wrote (verdict_text replies) tells.lines),
)
