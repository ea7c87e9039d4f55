use Rattle.std.proofs.Common.{ap, ◌∙◌, arith}
use Rattle.dag_drawing.specs.Drawn.{marked_from}
use Rattle.dag_drawing.proofs.Drawn.{are_strands, are_edges}
use Rattle.dag_drawing.proofs.drawing.draw.Goals as goal

pub returns-then-len-gt-MOST_STRANDS : goal.returns-then-len-gt-MOST_STRANDS
returns-then-len-gt-MOST_STRANDS c = (
  c.in_ok-strands.strands.items,
  are_strands _ _ _ _ c.in_ok-walk.ensures _ (c.in_ok-strands.ensures ∙ ap (marked_from 0) c.as_slice.ensures.value),
  omega (arith, c.len.ensures, c.if-len-gt-MOST_STRANDS.true),
)

pub returns : goal.returns
returns c =
    let strands = c.in_ok-strands.ensures ∙ ap (marked_from 0) c.as_slice.ensures.value in
    record {
      strands = rw c.in_ok-drawing_of.ensures.strands (are_strands _ _ _ _ c.in_ok-walk.ensures _ strands);
      few = rw c.in_ok-drawing_of.ensures.strands (omega (arith, c.len.ensures, c.if-len-gt-MOST_STRANDS.false));
      edges = are_edges _ _ _ _ c.in_ok-walk.ensures _ c.in_ok-drawing_of.ensures.edges;
      accesses = c.in_ok-drawing_of.ensures.accesses;
      races = c.in_ok-drawing_of.ensures.races;
    }
