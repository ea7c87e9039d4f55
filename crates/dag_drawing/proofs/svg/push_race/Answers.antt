use Rattle.std.specs.Prelude.{codes}
use Rattle.text_buffers.proofs.Builders.{these, three_adds}
use Rattle.dag_drawing.specs.Pictures.{ends_text, curve_text, arc_text, label_text, race_text}
use Rattle.dag_drawing.proofs.Pushed.{race_filled}
use Rattle.dag_drawing.proofs.svg.push_race.Goals as goal

pub returns : goal.returns
unfolding ends_text curve_text arc_text label_text race_text
returns c =
    these _ _ _ _
    (three_adds _ _ _ _ _ _ _
    (rw (
      c.saturating_sub.ensures,
      c.saturating_sub-2.ensures,
      c.saturating_sub-3.ensures,
      c.middle-x.ensures.value,
      c.middle-other_x.ensures.value,
      c.top-y.ensures.value,
      c.top-other_y.ensures.value,
    ) at c.push_filled.ensures)
    (rw (c.as_bytes.ensures.value, c.in-Ok.ensures) at c.push_xml.ensures) c.push_words.ensures)
    (race_filled (codes "<g class=\"race\" data-from=\"") _ (codes "\" data-to=\"") _ (codes "\">\n") (codes "<path d=\"M ") (codes " ") _ _ (codes " C ") _ _ _ _
    (codes "\"/>\n") (codes "<text x=\"") _ (codes "\" y=\"") _ (codes "\">") _ _)
