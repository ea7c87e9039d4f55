use Rattle.std.proofs.Common.{rules}
use Rattle.std.proofs.lemmas.Result.{err_from_is_err_and}
use Rattle.trace_text.specs.Traces.{contents as trace_contents}
use Rattle.program_text.specs.Programs.{contents}
use Rattle.tool_commands.proofs.ReplayCauses.{gate_cause}
use Rattle.tool_commands.proofs.replay.replay_trace.Goals as goal

pub returns-clause-ok : goal.returns-clause-ok
returns-clause-ok g c = record {
  same = c.declare_same.ensures.0 (search rules);
  gate = c.in_ok-gate.gate;
  answers = c.in_ok-gate.ensures.ok;
  entries = c.history-entries.result.now;
  history = c.history-entries.ensures.entries;
  outcome = c.in_ok-outcome.outcome;
  so = c.in_ok-outcome.ensures.so;
  line_is = c.in_ok-line.ensures;
  status_is = search rules;
}

pub returns-in_err-gate-clause-fault : goal.returns-in_err-gate-clause-fault
returns-in_err-gate-clause-fault g c =
    let gone = err_from_is_err_and c.from_residual.result c.from_residual.ensures.1 in
    rw (gone.1, gone.2) (gate_cause (contents c.args.program) (trace_contents c.args.trace) c.in_err-gate.field-0.0 (c.declare_same.ensures.0 (search rules)) c.in_err-gate.ensures.fault)
