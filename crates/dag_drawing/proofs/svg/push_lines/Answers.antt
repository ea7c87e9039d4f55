use Rattle.std.proofs.Common.{arith, ap}
use Rattle.std.proofs.lemmas.Grind.{common_steps}
use Rattle.std.proofs.lemmas.List.{drop_all}
use Rattle.std.specs.Prelude.{codes, map, string_bytes}
use Rattle.text_buffers.proofs.Builders.{these, three_adds}
use Rattle.dag_drawing.specs.Pictures.{lines_text}
use Rattle.dag_drawing.proofs.Pushed.{one_part, no_part_left, one_filled}
use Rattle.dag_drawing.proofs.svg.push_lines.Goals as goal

pub loop-line-init : goal.loop-line-init
loop-line-init c = λ end adds. adds

pub loop-line-preserved : goal.loop-line-preserved
loop-line-preserved c =
    one_part _ _ _ _ _ _ _ (grind (arith, common_steps)) c.loop-line.invariant
    (three_adds _ _ _ _ _ _ _ (these _ _ _ _ c.push_filled.ensures (one_filled (codes "<tspan x=\"") _ (codes "\" dy=\"16\">")))
    c.push_cut.ensures c.push_words.ensures)

pub returns : goal.returns
returns c = no_part_left _ _ _ _ (ap (λ rest. lines_text c.args.most c.args.left (map string_bytes rest)) (drop_all _ _ c.loop-line-test.false)) c.loop-line.invariant
