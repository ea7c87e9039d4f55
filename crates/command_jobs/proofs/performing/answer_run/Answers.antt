use Rattle.std.proofs.Common.{◌∙◌, sym}
use Rattle.std.specs.String.{string_bytes}
use Rattle.command_streams.specs.Watched.{held}
use Rattle.command_streams.specs.Readings.{reading}
use Rattle.tool_commands.specs.Explanations.{IsExplained, HasExplanationCause}
use Rattle.tool_commands.specs.Runs.{IsRan, HasRunCause}
use Rattle.tool_commands.specs.Traced.{IsTraceWritten, HasTraceCause}
use Rattle.command_jobs.specs.Performed.{input_name}
use Rattle.command_jobs.proofs.Sources.{named_source, done_of, stopped_of, told_of, untold_of}
use Rattle.command_jobs.proofs.performing.answer_run.Goals as goal

pub returns-in-Run-clause-done : goal.returns-in-Run-clause-done
returns-in-Run-clause-done g c = rw c.in-Run.is (λ sources reads.
    done_of (λ before behind status. IsRan (reading before behind) (g.W.Write.contents (held c.args.output.now)) (g.W.Write.contents (held c.run_text.new.output)) c.in-Run.limit status)
    _ _ _ c.run_text.result (reads ∙ named_source sources (string_bytes c.in-Run.file)) c.run_text.ensures.answered)

pub returns-in-Run-clause-fault : goal.returns-in-Run-clause-fault
returns-in-Run-clause-fault g c = rw c.in-Run.is (λ sources reads.
    stopped_of (λ before behind fault. HasRunCause (reading before behind) (g.W.Write.contents (held c.args.output.now)) (g.W.Write.contents (held c.run_text.new.output)) c.in-Run.limit fault)
    _ _ _ c.run_text.result (reads ∙ named_source sources (string_bytes c.in-Run.file)) c.run_text.ensures.fault)

pub returns-in-Trace-clause-done : goal.returns-in-Trace-clause-done
returns-in-Trace-clause-done g c = rw c.in-Trace.is (λ sources reads.
    done_of (λ before behind status. IsTraceWritten (reading before behind) (g.W.Write.contents (held c.args.output.now)) (g.W.Write.contents (held c.write_run_trace.new.output)) c.in-Trace.limit status)
    _ _ _ c.write_run_trace.result (reads ∙ named_source sources (string_bytes c.in-Trace.file)) c.write_run_trace.ensures.answered)

pub returns-in-Trace-clause-fault : goal.returns-in-Trace-clause-fault
returns-in-Trace-clause-fault g c = rw c.in-Trace.is (λ sources reads.
    stopped_of (λ before behind fault. HasTraceCause (reading before behind) (g.W.Write.contents (held c.args.output.now)) (g.W.Write.contents (held c.write_run_trace.new.output)) c.in-Trace.limit fault)
    _ _ _ c.write_run_trace.result (reads ∙ named_source sources (string_bytes c.in-Trace.file)) c.write_run_trace.ensures.fault)

pub returns-in-Explain-clause-done : goal.returns-in-Explain-clause-done
returns-in-Explain-clause-done g c = rw c.in-Explain.is (λ sources reads.
    told_of (string_bytes c.in-Explain.file) c.in-Explain.color c.in-Explain.format c.in-Explain.is_all c.manner_of-manner.result (rw (sym c.as_str.ensures.value) c.manner_of-manner.ensures)
    (λ before behind manner status. IsExplained manner (reading before behind) (g.W.Write.contents (held c.args.output.now)) (g.W.Write.contents (held c.explain_text.new.output)) c.in-Explain.limit status)
    _ _ _ c.explain_text.result reads c.explain_text.ensures.answered)

pub returns-in-Explain-clause-fault : goal.returns-in-Explain-clause-fault
returns-in-Explain-clause-fault g c = rw c.in-Explain.is (λ sources reads.
    untold_of (string_bytes c.in-Explain.file) c.in-Explain.color c.in-Explain.format c.in-Explain.is_all c.manner_of-manner.result (rw (sym c.as_str.ensures.value) c.manner_of-manner.ensures)
    (λ before behind manner fault. HasExplanationCause manner (reading before behind) (g.W.Write.contents (held c.args.output.now)) (g.W.Write.contents (held c.explain_text.new.output)) c.in-Explain.limit fault)
    _ _ _ c.explain_text.result reads c.explain_text.ensures.fault)

pub returns-in-ExplainInput-clause-done : goal.returns-in-ExplainInput-clause-done
returns-in-ExplainInput-clause-done g c = rw c.in-ExplainInput.is (λ sources reads.
    told_of input_name c.in-ExplainInput.color c.in-ExplainInput.format c.in-ExplainInput.is_all c.manner_of-manner-in-ExplainInput.result c.manner_of-manner-in-ExplainInput.ensures
    (λ before behind manner status. IsExplained manner (reading before behind) (g.W.Write.contents (held c.args.output.now)) (g.W.Write.contents (held c.explain_text-in-ExplainInput.new.output)) c.in-ExplainInput.limit status)
    _ _ _ c.explain_text-in-ExplainInput.result reads c.explain_text-in-ExplainInput.ensures.answered)

pub returns-in-ExplainInput-clause-fault : goal.returns-in-ExplainInput-clause-fault
returns-in-ExplainInput-clause-fault g c = rw c.in-ExplainInput.is (λ sources reads.
    untold_of input_name c.in-ExplainInput.color c.in-ExplainInput.format c.in-ExplainInput.is_all c.manner_of-manner-in-ExplainInput.result c.manner_of-manner-in-ExplainInput.ensures
    (λ before behind manner fault. HasExplanationCause manner (reading before behind) (g.W.Write.contents (held c.args.output.now)) (g.W.Write.contents (held c.explain_text-in-ExplainInput.new.output)) c.in-ExplainInput.limit fault)
    _ _ _ c.explain_text-in-ExplainInput.result reads c.explain_text-in-ExplainInput.ensures.fault)
