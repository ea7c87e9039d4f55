use Rattle.std.proofs.Common.{Option, sym, ap, subst, ◌∙◌}
use Rattle.trace_text.specs.Traces.{contents as trace_contents}
use Rattle.model_races.specs.Judged.{IsJudged}
use Rattle.race_explanations.specs.Extents.{most_pairs}
use Rattle.tool_commands.specs.declared.ask.Stop.{Stop}
use Rattle.tool_commands.specs.Explanations.{Manner}
use Rattle.tool_commands.specs.Replays.{Asks}
use Rattle.tool_commands.proofs.Answering.{few_answered, digest_answered}
use Rattle.tool_commands.proofs.explain_trace.judge_trace.Goals as goal

pub of-requires-clause-judged : goal.of-requires-clause-judged
of-requires-clause-judged c =
    (c.in_ok-gate.gate.shape, subst (IsJudged c.in_ok-gate.gate.shape) (sym c.history.ensures.entries) c.history.ensures.judged)

pub of-requires-clause-few : goal.of-requires-clause-few
of-requires-clause-few c =
    few_answered (trace_contents c.args.trace.now) c.in_ok-gate.gate c.history.result.now
    (subst (λ (stop : Option Stop). Asks (trace_contents c.args.trace.now) c.in_ok-gate.gate stop) c.in-None.is c.in_ok-gate.ensures)
    c.history.ensures.within c.history.ensures.entries

pub returns-in-None-clause-ok : goal.returns-in-None-clause-ok
returns-in-None-clause-ok c = (
  digest_answered (trace_contents c.args.trace.now) c.in_ok-gate.gate c.history.result.now c.in_ok-of-in-None.field-0
      (subst (λ (stop : Option Stop). Asks (trace_contents c.args.trace.now) c.in_ok-gate.gate stop) c.in-None.is c.in_ok-gate.ensures)
      c.history.ensures.entries c.in_ok-of-in-None.ensures.0,
  c.in_ok-of-in-None.ensures.1 ∙ c.most_pairs-most.ensures ∙ ap (λ (manner : Manner). most_pairs manner.extent) c.manner.view_is,
)
