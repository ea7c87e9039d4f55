use Rattle.std.proofs.Common.{arith, ap}
use Rattle.std.proofs.lemmas.Grind.{common_steps}
use Rattle.std.proofs.lemmas.List.{drop_all}
use Rattle.std.specs.Prelude.{flat_map, map, string_bytes}
use Rattle.text_buffers.proofs.Builders.{two_adds}
use Rattle.dag_drawing.specs.Dots.{line_text}
use Rattle.dag_drawing.proofs.Pushed.{one_part, no_part_left}
use Rattle.dag_drawing.proofs.dot.push_lines.Goals as goal

pub loop-line-init : goal.loop-line-init
loop-line-init c = λ end adds. adds

pub loop-line-preserved : goal.loop-line-preserved
loop-line-preserved c =
    one_part _ _ _ _ _ _ _ (grind (arith, common_steps)) c.loop-line.invariant
    (two_adds _ _ _ _ _ c.push_escaped.ensures c.push_words.ensures)

pub returns : goal.returns
returns c = no_part_left _ _ _ _ (ap (λ rest. flat_map line_text (map string_bytes rest)) (drop_all _ _ c.loop-line-test.false)) c.loop-line.invariant
