use Rattle.std.proofs.Common.{List, refl, sym, subst}
use Rattle.trace_text.specs.Traces.{contents as trace_contents}
use Rattle.model_histories.specs.declared.answer.Entry.{Entry}
use Rattle.model_histories.specs.Legal.{IsLegal}
use Rattle.tool_commands.proofs.explain_trace.explain_stop.Goals as goal

pub find_illegality-requires : goal.find_illegality-requires
find_illegality-requires c = (
  c.args.gate.now.shape,
  subst (λ (xs : List Entry). IsLegal c.args.gate.now.shape xs) (sym c.history-entries.ensures.entries) c.history-entries.ensures.judged.legal,
)

pub returns-in_ok-told-in-Some-clause-ok : goal.returns-in_ok-told-in-Some-clause-ok
returns-in_ok-told-in-Some-clause-ok c = record {
  trace = trace_contents c.args.trace.now;
  means = c.requires.means;
  gate = c.args.gate.now;
  stop = c.args.stop;
  stops = c.requires.stops;
  why = c.in-Some.why;
  reason = c.in-Some.ensures c.args.gate.now (sym c.history-entries.ensures.entries) c.requires.stops.first.0;
  tells = c.in_ok-told-in-Some.ensures;
  status_is = refl;
}
