use Rattle.std.proofs.Common.{arith, ap}
use Rattle.std.proofs.lemmas.Grind.{common_steps}
use Rattle.std.proofs.lemmas.List.{drop_all}
use Rattle.std.specs.Prelude.{codes, flat_map}
use Rattle.text_buffers.proofs.Builders.{these, three_adds}
use Rattle.dag_drawing.specs.Plans.{plan_of}
use Rattle.dag_drawing.specs.Pictures.{edge_text}
use Rattle.dag_drawing.proofs.Pushed.{one_part, no_part_left, edge_filled}
use Rattle.dag_drawing.proofs.svg.push_edges.Goals as goal

pub loop-edge-init : goal.loop-edge-init
loop-edge-init c = λ end adds. adds

pub loop-edge-preserved : goal.loop-edge-preserved
unfolding edge_text
loop-edge-preserved c =
    one_part _ _ _ _ _ _ _ (grind (arith, common_steps)) c.loop-edge.invariant
    (these _ _ _ _ (three_adds _ _ _ _ _ _ _ c.push_words.ensures (these _ _ _ _ c.push_words-in-loop-edge.ensures c.word_of.ensures)
    (rw (c.middle.ensures.value, c.top.ensures.value, c.middle-in-loop-edge.ensures.value, c.top-in-loop-edge.ensures.value) at c.push_filled.ensures))
    (edge_filled (codes "<line class=\"") _ (codes "\" data-from=\"") _ (codes "\" data-to=\"") _ (codes "\" x1=\"") _ (codes "\" y1=\"") _
    (codes "\" x2=\"") _ (codes "\" y2=\"") _ (codes "\"/>\n")))

pub returns : goal.returns
returns c = no_part_left _ _ _ _ (ap (flat_map (edge_text (plan_of c.args.layout.now))) (drop_all _ _ c.loop-edge-test.false)) c.loop-edge.invariant
