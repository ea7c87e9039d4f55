use Rattle.std.proofs.Common.{◌≡◌, arith}
use Rattle.order_list.specs.Order.{place_of}
use Rattle.order_list.specs.Items.{items_of}
use Rattle.order_list.proofs.Rises.{label_of}
use Rattle.order_list.proofs.Stretches.{stretch-back}
use Rattle.order_list.proofs.relabel.widen_back.Goals as goal

pub returns-then-labels-before-clause-before : goal.returns-then-labels-before-clause-before
returns-then-labels-before-clause-before g c = λ place e.
    let same : place_of c.previous-before.result (items_of c.args.ring.now) ≡ place = omega (arith, c.previous-before.ensures.place) in
    let label = label_of c.args.labels.now (items_of c.args.ring.now) c.previous-before.result (c.args.ring.now.tied.chain.listing _ c.previous-before.ensures.known) in
    omega (arith, rw same at label)

pub back-preserved : goal.back-preserved
back-preserved g c = record {
  stretch = stretch-back _ _ _ c.back.invariant.stretch c.previous-before.ensures.known c.previous-before.ensures.place;
  item = c.back.invariant.item;
}
