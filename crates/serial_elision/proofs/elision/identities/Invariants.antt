use Rattle.std.proofs.Common.{◌≡◌, map, take}
use Rattle.model_reducers.specs.Products.{identity_of}
use Rattle.serial_elision.proofs.elision.identities.Given as goal

abbrev pub invariant-loop-monoid : goal.invariant-loop-monoid
invariant-loop-monoid g l = l.views.items ≡ map identity_of (take l.monoid-index l.monoids)
