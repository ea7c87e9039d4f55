use Rattle.std.specs.Prelude.{codes}
use Rattle.text_buffers.proofs.Builders.{these, three_adds}
use Rattle.dag_drawing.proofs.Pushed.{two_filled}
use Rattle.dag_drawing.proofs.dot.push_race.Goals as goal

pub returns : goal.returns
returns c =
    three_adds _ _ _ _ _ _ _
    (these _ _ _ _ (rw (c.from.ensures, c.from-2.ensures) at c.push_filled.ensures) (two_filled (codes "  ") _ (codes " -> ") _ (codes " [label=\"")))
    (rw (c.as_str.ensures.value, c.in-Ok.ensures) at c.push_escaped.ensures) c.push_words.ensures
