use Rattle.std.proofs.Common.{◌≡◌, false, sym, ◌∙◌}
use Rattle.trace_notes.specs.Lines.{is_comment}
use Rattle.trace_notes.proofs.Kept.{next_adds, next_plain, no_more}
use Rattle.trace_notes.proofs.notes.Notes.add_lines.Goals as goal

pub loop-rest-preserved-in_ok-add_line : goal.loop-rest-preserved-in_ok-add_line
loop-rest-preserved-in_ok-add_line c = λ last adds.
    c.loop-rest.invariant last
    (next_adds c.loop-rest.rest.now c.split_line.result.0.now c.split_line.result.1.now _ c.loop-rest.self c.add_line.new.self last
    c.split_line.ensures.pieces c.without_return-line.ensures c.in_ok-add_line.ensures adds)

pub loop-rest-preserved : goal.loop-rest-preserved
loop-rest-preserved c = λ last adds.
    let none : is_comment c.without_return-line.result.now ≡ false = cc in
    c.loop-rest.invariant last
    (next_plain c.loop-rest.rest.now c.split_line.result.0.now c.split_line.result.1.now _ c.loop-rest.self last
    c.split_line.ensures.pieces c.without_return-line.ensures none adds)

pub returns : goal.returns
returns c = c.loop-rest.invariant _ (no_more c.loop-rest.rest.now _ (sym c.is_empty.ensures ∙ c.loop-rest-test.false))
