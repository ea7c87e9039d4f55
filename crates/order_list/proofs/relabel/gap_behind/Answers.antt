use Rattle.std.proofs.Common.{◌+◌, sym, ◌∙◌, arith}
use Rattle.order_list.specs.Order.{place_of}
use Rattle.order_list.specs.Items.{items_of}
use Rattle.order_list.proofs.Rises.{label-rises}
use Rattle.order_list.proofs.Stretches.{label-end, label-inner}
use Rattle.order_list.proofs.relabel.gap_behind.Goals as goal

pub returns-in-0 : goal.returns-in-0
returns-in-0 g c =
    let ring = c.args.ring.now.tied.chain in
    let place = place_of c.args.item (items_of c.args.ring.now) in
    omega (arith, label-end ring c.args.labels.now (place + 1) (omega arith) (omega (arith, ring.listing c.args.item c.requires.known)) (sym c.next.ensures.value ∙ c.in-0.is), c.type_inv.labels c.args.item)

pub overflow_sub-result-in_default : goal.overflow_sub-result-in_default
overflow_sub-result-in_default g c =
    let ring = c.args.ring.now.tied.chain in
    let place = place_of c.args.item (items_of c.args.ring.now) in
    omega (arith, label-inner ring c.args.labels.now (place + 1) c.next.result (omega arith) c.next.ensures.value, label-rises c.args.labels.now _ ring.listing c.requires.was_rising c.args.item c.requires.known)

pub returns-in_default : goal.returns-in_default
returns-in_default g c =
    let ring = c.args.ring.now.tied.chain in
    let place = place_of c.args.item (items_of c.args.ring.now) in
    omega (arith, label-inner ring c.args.labels.now (place + 1) c.next.result (omega arith) c.next.ensures.value, label-rises c.args.labels.now _ ring.listing c.requires.was_rising c.args.item c.requires.known)
