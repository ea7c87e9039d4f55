use Rattle.text_buffers.proofs.Builders.{two_adds, five_adds}
use Rattle.dag_drawing.proofs.Pushed.{text_built}
use Rattle.dag_drawing.proofs.dot.dot_text.Goals as goal

pub returns : goal.returns
returns c =
    text_built c.end.result (λ text. text.items) _ _ _ c.new-text.ensures
    (two_adds _ _ _ _ _
    (five_adds _ _ _ _ _ _ _ _ _ _ _ c.push_words.ensures (rw c.runs.ensures.noted at c.push_heading.ensures)
    (rw (c.as_slice.ensures.value, c.as_slice-2.ensures.value) at c.push_boxes.ensures) (rw c.as_slice-3.ensures.value at c.push_edges.ensures)
    (rw c.as_slice-4.ensures.value at c.push_races.ensures))
    c.push_words-2.ensures) c.end.ensures
