use Rattle.trace_text.specs.Traces.{contents}
use Rattle.command_streams.specs.Watched.{held, has_failed}
use Rattle.judge_command.proofs.Causes.{told_answer, told_stop}
use Rattle.judge_command.proofs.judge.answer_trace.Goals as goal

pub returns-clause-answered : goal.returns-clause-answered
returns-clause-answered g c =
    told_answer c.in_ok-verdicts.verdicts c.args.limit (contents c.args.trace.now) (g.W.Write.contents (held c.args.output.now))
    (g.W.Write.contents (held c.judge.new.output)) (g.W.Write.contents (held c.finish.new.output)) (has_failed c.judge.new.output)
    c.in_ok-verdicts.ensures.told c.finish.result c.finish.ensures.answered

pub returns-clause-fault : goal.returns-clause-fault
returns-clause-fault g c =
    told_stop c.in_ok-verdicts.verdicts c.args.limit (contents c.args.trace.now) (g.W.Write.contents (held c.args.output.now))
    (g.W.Write.contents (held c.judge.new.output)) (g.W.Write.contents (held c.finish.new.output)) (has_failed c.judge.new.output)
    c.in_ok-verdicts.ensures.told c.finish.result c.finish.ensures.fault
