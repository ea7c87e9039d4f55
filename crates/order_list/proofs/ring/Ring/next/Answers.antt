use Rattle.std.proofs.Common.{◌+◌, ◌∙◌, arith}
use Rattle.std.proofs.lemmas.List.{get_or_read}
use Rattle.order_list.specs.Order.{place_of}
use Rattle.order_list.specs.Items.{items_of}
use Rattle.order_list.proofs.Rings.{next_is, known_at}
use Rattle.order_list.proofs.ring.Ring.next.Goals as goal

pub returns : goal.returns
returns g c =
    let ring = c.args.self.now.tied.chain in
    let place = place_of c.args.item (items_of c.args.self.now) in
    let value = get_or_read c.args.self.now.next.items c.args.item _ (omega (arith, ring.next_len)) c.index.ensures 0 ∙ next_is ring c.args.item c.requires in
    record { value = value; known = omega (arith, value, known_at ring (place + 1) (omega (arith, ring.listing c.args.item c.requires))) }
