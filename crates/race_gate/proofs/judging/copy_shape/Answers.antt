use Rattle.std.proofs.Common.{◌∙◌, arith}
use Rattle.race_gate.proofs.Opening.{is-copy}
use Rattle.race_gate.proofs.judging.copy_shape.Goals as goal

pub returns : goal.returns
returns g c = is-copy _ _ _ _ (omega arith) (c.new.ensures ∙ c.in_ok-monoids.ensures.items ∙ c.as_slice.ensures)
