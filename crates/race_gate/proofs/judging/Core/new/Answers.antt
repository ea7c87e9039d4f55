use Rattle.std.proofs.Common.{subst}
use Rattle.race_gate.specs.Kept.{OpensTracks, tracks_of}
use Rattle.race_gate.proofs.Opening.{core-opening}
use Rattle.race_gate.proofs.judging.Core.new.Goals as goal

pub invariant_of-result : goal.invariant_of-result
invariant_of-result g c = (
  _,
  core-opening _ _ _ _ _ c.in_ok-shape.ensures (c.in_ok-vec.ensures.items_if_clones_equal (λ y e. e))
      (subst (OpensTracks (tracks_of c.in_ok-new.field-0) _) c.as_slice.ensures c.in_ok-new.ensures) c.requires.entries,
)

pub returns : goal.returns
returns g c =
    core-opening _ _ _ _ _ c.in_ok-shape.ensures (c.in_ok-vec.ensures.items_if_clones_equal (λ y e. e))
    (subst (OpensTracks (tracks_of c.in_ok-new.field-0) _) c.as_slice.ensures c.in_ok-new.ensures) c.requires.entries
