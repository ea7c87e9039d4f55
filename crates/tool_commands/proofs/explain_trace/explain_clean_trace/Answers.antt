use Rattle.std.proofs.Common.{◌++◌, inl, reverse, flat_map, sym, subst, ap, ◌∙◌}
use Rattle.std.proofs.lemmas.List.{reverse-reverse, length-reverse}
use Rattle.trace_text.specs.Traces.{contents as trace_contents}
use Rattle.model_histories.specs.Entries.{Entries}
use Rattle.model_histories.specs.Extensions.{IsClean}
use Rattle.law_traces.proofs.CleanTraces.{clean_trace_law}
use Rattle.tool_commands.proofs.RunStatuses.{status_clean}
use Rattle.tool_commands.specs.Explanations.{clean_trace_words, judged_text, recorded_line}
use Rattle.tool_commands.proofs.explain_trace.explain_clean_trace.Goals as goal

pub returns : goal.returns
returns c = λ manner is_text.
    let all = c.requires.clean in
    let history = all.gate.history in
    let entries = reverse history in
    let clean : IsClean (reverse entries) = subst (λ (some : Entries). IsClean some) (sym (reverse-reverse history)) all.clean in
    record {
      trace = trace_contents c.args.trace.now;
      means = c.requires.means.means;
      gate = all.gate;
      answers = all.answers;
      entries = entries;
      history = reverse-reverse history;
      speaks = clean_trace_law all.gate.shape history all.answers.judges.judged;
      notes = c.in_ok-notes.notes;
      are_notes = c.in_ok-notes.ensures;
      tells = rw is_text (
        c.in_ok-told.told.items,
        inl (clean, c.in_ok-told.ensures ∙ ap (λ n. clean_trace_words ++ judged_text n) (all.count_is ∙ sym (length-reverse history))),
        c.in_ok-push_recorded.ensures ∙ ap (λ runs. c.in_ok-told.told.items ++ flat_map recorded_line runs) c.runs.ensures.noted,
      );
      status_is = status_clean entries clean;
    }
