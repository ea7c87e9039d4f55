use Rattle.std.proofs.Common.{List, sym, subst}
use Rattle.std.proofs.lemmas.Result.{err_from_is_err_and}
use Rattle.trace_text.specs.Traces.{contents}
use Rattle.model_histories.specs.declared.answer.Entry.{Entry}
use Rattle.model_histories.specs.Legal.{IsLegal}
use Rattle.tool_commands.proofs.DrawingCauses.{text_named, untraced, unanswered, undrawn}
use Rattle.tool_commands.proofs.draw.draw_trace.Goals as goal

pub returns-in_err-trace-clause-fault : goal.returns-in_err-trace-clause-fault
returns-in_err-trace-clause-fault c =
    let gone = err_from_is_err_and c.from_residual-in_err-trace.result c.from_residual-in_err-trace.ensures.1 in
    rw (gone.1, gone.2) (untraced c.args.bytes.items c.in_err-trace.field-0.0 c.in_err-trace.ensures.fault)

pub returns-in_err-gate-clause-fault : goal.returns-in_err-gate-clause-fault
returns-in_err-gate-clause-fault c =
    let gone = err_from_is_err_and c.from_residual-in_err-gate.result c.from_residual-in_err-gate.ensures.1 in
    rw (gone.1, gone.2) (unanswered c.args.bytes.items (contents c.in_ok-trace.trace) c.in_err-gate.field-0.0 c.in_ok-trace.ensures.ok c.in_err-gate.ensures.fault)

pub drawing_of-requires : goal.drawing_of-requires
drawing_of-requires c = (
  c.in_ok-gate.gate.shape,
  subst (λ (xs : List Entry). IsLegal c.in_ok-gate.gate.shape xs) (sym c.history-entries.ensures.entries) c.history-entries.ensures.judged.legal,
)

pub returns-in_err-drawing-clause-fault : goal.returns-in_err-drawing-clause-fault
returns-in_err-drawing-clause-fault c =
    let gone = err_from_is_err_and c.from_residual-in_err-drawing.result c.from_residual-in_err-drawing.ensures.1 in
    rw (gone.1, gone.2) (undrawn c.args.bytes.items (contents c.in_ok-trace.trace) c.in_ok-gate.gate c.history-entries.result.now c.in_err-drawing.field-0.0
    c.in_ok-trace.ensures.ok c.in_ok-gate.ensures.ok c.history-entries.ensures.entries c.in_err-drawing.ensures.fault)

pub returns-clause-ok : goal.returns-clause-ok
returns-clause-ok c = record {
  trace = contents c.in_ok-trace.trace;
  means = c.in_ok-trace.ensures.ok;
  notes = c.in_ok-notes.notes;
  noted = rw c.as_slice.ensures.value at c.in_ok-notes.ensures;
  draws = record {
    gate = c.in_ok-gate.gate;
    answers = c.in_ok-gate.ensures.ok;
    entries = c.history-entries.result.now;
    history = c.history-entries.ensures.entries;
    drawing = c.in_ok-drawing.drawing;
    drawn = c.in_ok-drawing.ensures.ok;
    text_is = text_named c.args.form c.in_ok-notes.notes (contents c.in_ok-trace.trace) _ _ c.in_ok-drawing.drawing _ c.as_slice-mems.ensures c.as_slice-reducers.ensures c.in_ok-text.ensures;
    status_is = c.refusal_status.ensures;
  };
}
