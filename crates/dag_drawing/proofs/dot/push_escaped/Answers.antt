use Rattle.std.proofs.Common.{arith, ap}
use Rattle.std.proofs.lemmas.Grind.{common_steps}
use Rattle.std.proofs.lemmas.List.{drop_all}
use Rattle.dag_drawing.specs.Texts.{escaped}
use Rattle.dag_drawing.proofs.Pushed.{one_part, no_part_left}
use Rattle.dag_drawing.proofs.dot.push_escaped.Goals as goal

pub loop-byte-init : goal.loop-byte-init
loop-byte-init c = λ end adds. adds

pub loop-byte-preserved : goal.loop-byte-preserved
loop-byte-preserved c =
    one_part _ _ _ _ _ _ _ (grind (arith, common_steps)) c.loop-byte.invariant
    c.push_escape.ensures

pub returns : goal.returns
returns c =
    rw c.as_bytes-byte-items.ensures.value at (no_part_left _ _ _ _ (ap escaped (drop_all _ _ c.loop-byte-test.false)) c.loop-byte.invariant)
