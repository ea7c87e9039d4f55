use Rattle.std.proofs.Common.{reverse}
use Rattle.std.proofs.lemmas.List.{reverse-reverse}
use Rattle.trace_text.specs.Traces.{contents as trace_contents}
use Rattle.law_traces.proofs.CleanTraces.{clean_trace_law}
use Rattle.tool_commands.proofs.explain_trace.explain_judged.Goals as goal

pub tell_verdict-requires-clause-digest : goal.tell_verdict-requires-clause-digest
tell_verdict-requires-clause-digest c = (reverse c.requires.digested.gate.history, c.requires.digested.digest_is)

pub returns : goal.returns
returns c =
    let digested = c.requires.digested in
    let entries = reverse digested.gate.history in record {
      trace = trace_contents c.args.trace.now;
      means = c.requires.means.means;
      gate = digested.gate;
      answers = digested.answers;
      entries = entries;
      history = reverse-reverse digested.gate.history;
      speaks = clean_trace_law digested.gate.shape digested.gate.history digested.answers.judges.judged;
      notes = c.in_ok-notes.notes;
      are_notes = c.in_ok-notes.ensures;
      tells = c.in_ok-told.ensures entries digested.digest_is;
      status_is = c.status_of.ensures entries digested.digest_is;
    }
