use Rattle.std.proofs.Common.{sym}
use Rattle.std.proofs.lemmas.List.{length-map}
use Rattle.std.specs.Prelude.{codes, decimal, string_bytes}
use Rattle.text_buffers.proofs.Builders.{these, three_adds}
use Rattle.dag_drawing.specs.Pictures.{rect_text, node_text}
use Rattle.dag_drawing.proofs.Pushed.{node_filled}
use Rattle.dag_drawing.proofs.svg.push_node.Goals as goal

pub returns : goal.returns
unfolding rect_text node_text
returns c =
    three_adds _ _ _ _ _ _ _
    (these _ _ _ _
    (rw (
      c.left_edge-left.ensures.value,
      c.top-top.ensures.value,
      c.from-width.ensures,
      c.from.ensures,
      c.at_most.ensures.value,
      c.as_slice-lines.ensures.value,
      sym (length-map c.in-Ok.told.items string_bytes),
      c.in-Ok.ensures,
    ) at c.push_filled.ensures)
    (node_filled (codes "<g id=\"strand-") (decimal c.args.strand) (codes "\">\n<rect x=\"") _ (codes "\" y=\"") _ (codes "\" width=\"") _
    (codes "\" height=\"") _ (codes "\"/>\n") (codes "<text y=\"") (codes "\">")))
    (rw (c.left_edge-left.ensures.value, c.as_slice-lines.ensures.value, c.in-Ok.ensures) at c.push_lines.ensures) c.push_words.ensures
