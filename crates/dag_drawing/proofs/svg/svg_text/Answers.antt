use Rattle.text_buffers.proofs.Builders.{these, two_adds, five_adds}
use Rattle.dag_drawing.proofs.Pushed.{head_same, planned, text_built}
use Rattle.dag_drawing.proofs.svg.svg_text.Goals as goal

pub returns : goal.returns
returns c =
    text_built c.end.result (λ text. text.items) _ _ _ c.new-text.ensures
    (planned _ _ _ _ _ c.args.drawing.now c.in_ok-layout.ensures (two_adds _ _ _ _ _
    (five_adds _ _ _ _ _ _ _ _ _ _ _ (these _ _ _ _ c.push_head.ensures (head_same _ _ _ _ c.width.ensures c.height.ensures))
    (rw c.runs.ensures.noted at c.push_title.ensures) (rw c.as_slice.ensures.value at c.push_edges.ensures)
    (rw (c.as_slice-2.ensures.value, c.as_slice-3.ensures.value) at c.push_nodes.ensures)
    (rw c.as_slice-4.ensures.value at c.push_races.ensures))
    c.push_words.ensures)) c.end.ensures
