use Rattle.std.proofs.lemmas.Result.{err_from_is_err_and}
use Rattle.trace_text.specs.Traces.{contents}
use Rattle.command_streams.specs.Watched.{held}
use Rattle.judge_command.proofs.Causes.{cause_read, stream_answered, stream_stops}
use Rattle.judge_command.proofs.judge.judge_stream.Goals as goal

pub returns-in_err-trace-clause-fault : goal.returns-in_err-trace-clause-fault
returns-in_err-trace-clause-fault g c =
    let gone = err_from_is_err_and c.from_residual.result c.from_residual.ensures.1 in
    rw (gone.1, gone.2) (cause_read (g.R.Read.remaining (held c.args.input.now)) (g.R.Read.remaining (held c.read_trace.new.input))
    (g.W.Write.contents (held c.args.output.now)) (g.W.Write.contents (held c.args.output.now)) c.args.limit _ c.in_err-trace.ensures.fault)

pub returns-clause-answered : goal.returns-clause-answered
returns-clause-answered g c =
    stream_answered (g.R.Read.remaining (held c.args.input.now)) (g.R.Read.remaining (held c.read_trace.new.input))
    (g.W.Write.contents (held c.args.output.now)) (g.W.Write.contents (held c.answer_trace.new.output)) c.args.limit (contents c.in_ok-trace.trace)
    c.in_ok-trace.ensures.ok c.answer_trace.result c.answer_trace.ensures.answered

pub returns-clause-fault : goal.returns-clause-fault
returns-clause-fault g c =
    stream_stops (g.R.Read.remaining (held c.args.input.now)) (g.R.Read.remaining (held c.read_trace.new.input))
    (g.W.Write.contents (held c.args.output.now)) (g.W.Write.contents (held c.answer_trace.new.output)) c.args.limit (contents c.in_ok-trace.trace)
    c.in_ok-trace.ensures.ok c.answer_trace.result c.answer_trace.ensures.fault
