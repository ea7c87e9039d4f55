use Rattle.std.proofs.Common.{arith, ap}
use Rattle.std.proofs.lemmas.Grind.{common_steps}
use Rattle.std.proofs.lemmas.List.{drop_all}
use Rattle.std.specs.Prelude.{codes, flat_map}
use Rattle.text_buffers.proofs.Builders.{these, three_adds}
use Rattle.dag_drawing.specs.Texts.{edge_text}
use Rattle.dag_drawing.proofs.Pushed.{one_part, no_part_left, two_filled}
use Rattle.dag_drawing.proofs.dot.push_edges.Goals as goal

pub loop-edge-init : goal.loop-edge-init
loop-edge-init c = λ end adds. adds

pub loop-edge-preserved : goal.loop-edge-preserved
loop-edge-preserved c =
    one_part _ _ _ _ _ _ _ (grind (arith, common_steps)) c.loop-edge.invariant
    (three_adds _ _ _ _ _ _ _
    (these _ _ _ _ (rw (c.from.ensures, c.from-in-loop-edge.ensures) at c.push_filled.ensures) (two_filled (codes "  ") _ (codes " -> ") _ (codes " [label=\"")))
    (these _ _ _ _ c.push_words.ensures c.word_of.ensures) c.push_words-in-loop-edge.ensures)

pub returns : goal.returns
returns c = no_part_left _ _ _ _ (ap (flat_map edge_text) (drop_all _ _ c.loop-edge-test.false)) c.loop-edge.invariant
