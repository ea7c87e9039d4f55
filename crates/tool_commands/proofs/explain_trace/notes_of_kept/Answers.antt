use Rattle.std.proofs.Common.{List, ℕ, ap, sym, subst}
use Rattle.std.proofs.lemmas.Result.{IfOk-weaker}
use Rattle.text_words.specs.Text.{lines}
use Rattle.trace_text.specs.Traces.{contents as trace_contents}
use Rattle.trace_notes.specs.Notes.{AreNotes}
use Rattle.command_streams.specs.PlainTexts.{IsPlainText}
use Rattle.command_streams.specs.KeptTexts.{text_of}
use Rattle.tool_commands.proofs.TraceTexts.{head_notes}
use Rattle.tool_commands.proofs.explain_trace.notes_of_kept.Goals as goal

pub returns-in-Plain : goal.returns-in-Plain
returns-in-Plain c =
    let kept = c.in-Plain.kept in
    let plain : IsPlainText kept.head.items kept.count (trace_contents kept.trace) = rw c.in-Plain.is at c.requires in
    IfOk-weaker c.notes_of-in-Plain.result _ _
    (λ notes are. subst (λ (bytes : List ℕ). AreNotes (lines bytes) notes) (sym (ap text_of c.in-Plain.is))
    (head_notes kept.head.items kept.count (trace_contents kept.trace) notes plain
    (subst (λ (bytes : List ℕ). AreNotes (lines bytes) notes) c.as_slice-in-Plain.ensures.value are)))
    c.notes_of-in-Plain.ensures
