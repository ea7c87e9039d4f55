use Rattle.std.proofs.Common.{◌+◌, arith}
use Rattle.order_list.specs.Order.{place_of}
use Rattle.order_list.specs.Items.{items_of}
use Rattle.order_list.proofs.Stretches.{goes-on, label-end, label-inner, stretch-ahead}
use Rattle.order_list.proofs.relabel.widen_ahead.Goals as goal

pub bounds-labels-wider : goal.bounds-labels-wider
bounds-labels-wider g c =
    omega (arith, c.requires.labels_len, (goes-on c.args.ring.now.tied.chain _ c.ahead.invariant.stretch (omega arith)).1)

pub next-requires : goal.next-requires
next-requires g c = (goes-on c.args.ring.now.tied.chain _ c.ahead.invariant.stretch (omega arith)).1

pub overflow_add-wider : goal.overflow_add-wider
overflow_add-wider g c =
    let ring = c.args.ring.now in
    omega (arith, (goes-on ring.tied.chain _ c.ahead.invariant.stretch (omega arith)).0, ring.few, ring.next.ok, ring.tied.chain.next_len)

pub ahead-smaller : goal.ahead-smaller
ahead-smaller g c = omega (arith, (goes-on c.args.ring.now.tied.chain _ c.ahead.invariant.stretch (omega arith)).0)

pub ahead-preserved : goal.ahead-preserved
ahead-preserved g c = record {
  stretch = stretch-ahead c.args.ring.now.tied.chain _ _ c.ahead.invariant.stretch (omega arith) c.next.ensures.value;
  item = c.ahead.invariant.item;
  first = c.ahead.invariant.first;
}

pub returns-else-labels-wider-clause-behind : goal.returns-else-labels-wider-clause-behind
returns-else-labels-wider-clause-behind g c =
    let stretch = c.ahead.invariant.stretch in
    let end = place_of c.ahead.wider.first (items_of c.args.ring.now) + c.ahead.wider.count in
    omega (arith, label-inner c.args.ring.now.tied.chain c.args.labels.now end c.ahead.wider.end (omega arith) stretch.end_is)

pub returns-after-ahead-clause-behind : goal.returns-after-ahead-clause-behind
returns-after-ahead-clause-behind g c =
    let stretch = c.ahead.invariant.stretch in
    let end = place_of c.ahead.wider.first (items_of c.args.ring.now) + c.ahead.wider.count in
    omega (arith, label-end c.args.ring.now.tied.chain c.args.labels.now end (omega (arith, stretch.from, stretch.to)) stretch.within (omega (arith, stretch.end_is)))
