use Rattle.std.proofs.Common.{refl}
use Rattle.std.proofs.lemmas.List.{map_more, take_all}
use Rattle.model_reducers.specs.declared.monoid.Monoid.TheVariants.{Sum}
use Rattle.model_reducers.specs.Products.{identity_of}
use Rattle.serial_elision.proofs.elision.identities.Goals as goal

pub loop-monoid-init : goal.loop-monoid-init
loop-monoid-init g c = c.new-views.ensures.items

pub loop-monoid-preserved : goal.loop-monoid-preserved
loop-monoid-preserved g c =
    rw c.in_ok-push.ensures.items (rw c.loop-monoid.invariant (rw c.identity.ensures.view (rw (map_more identity_of c.args.monoids.now c.loop-monoid.monoid-index Sum c.loop-monoid-test.true) refl)))

pub returns : goal.returns
returns g c = rw c.loop-monoid.invariant (rw (take_all c.loop-monoid.monoid-index c.args.monoids.now c.loop-monoid-test.false) refl)
