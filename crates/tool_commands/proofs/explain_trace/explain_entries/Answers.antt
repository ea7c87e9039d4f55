use Rattle.std.proofs.Common.{◌++◌, ◌∙◌, inl, inr, length, ap, subst, arith}
use Rattle.std.proofs.lemmas.List.{length-map}
use Rattle.std.proofs.lemmas.Result.{IfOk-weaker}
use Rattle.model_histories.specs.declared.answer.Entry.{Entry}
use Rattle.trace_text.specs.Traces.{contents as trace_contents}
use Rattle.race_explanations.specs.Explained.{IsTraceExplanation}
use Rattle.tool_commands.proofs.RunStatuses.{clean_status, status_clean}
use Rattle.tool_commands.specs.Explanations.{Manner, clean_trace_words, judged_text}
use Rattle.tool_commands.proofs.DigestStatuses.{digest_clean, digest_raced}
use Rattle.tool_commands.proofs.explain_trace.explain_entries.Goals as goal

pub returns-then-digest-eq0 : goal.returns-then-digest-eq0
returns-then-digest-eq0 c =
    IfOk-weaker c.explain_clean.result _ _
    (λ told is entries digest_is. inl (
      clean_status entries (digest_clean entries c.args.digest.now digest_is c.if-digest-eq0.true),
      is ∙ ap (λ n. clean_trace_words ++ judged_text n) (c.len.ensures ∙ (c.args.digest.now.lines.ok.0 ∙ ap length digest_is.lines ∙ length-map entries (λ (entry : Entry). entry.request.line))),
    ))
    c.explain_clean.ensures

pub returns : goal.returns
returns c =
    IfOk-weaker c.trace_explanation.result _ _
    (λ told is entries digest_is. inr (
      (λ clean. (
          let one = digest_raced entries c.args.digest.now digest_is (let some = c.if-digest-eq0.false in omega arith) in
          let zero = status_clean entries clean in omega (arith, one, zero))),
      subst (λ (manner : Manner). IsTraceExplanation manner.is_painted manner.extent c.args.notes.now (trace_contents c.args.trace.now).known entries told.items)
          c.manner.view_is (is entries digest_is),
    ))
    c.trace_explanation.ensures
