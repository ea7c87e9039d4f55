use Rattle.std.specs.Prelude.{codes}
use Rattle.text_buffers.proofs.Builders.{these, three_adds}
use Rattle.dag_drawing.proofs.Pushed.{one_filled}
use Rattle.dag_drawing.proofs.dot.push_box.Goals as goal

pub returns : goal.returns
returns c =
    three_adds _ _ _ _ _ _ _ (these _ _ _ _ c.push_filled.ensures (one_filled (codes "  ") _ (codes " [label=\"")))
    (rw (c.as_slice.ensures.value, c.in-Ok.ensures) at c.push_lines.ensures) c.push_words.ensures
