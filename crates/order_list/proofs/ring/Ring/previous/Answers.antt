use Rattle.std.proofs.Common.{◌≡◌, get_or, arith}
use Rattle.std.proofs.lemmas.List.{get_or_read}
use Rattle.order_list.proofs.Rings.{previous_known, place-previous}
use Rattle.order_list.proofs.ring.Ring.previous.Goals as goal

pub returns : goal.returns
returns g c =
    let ring = c.args.self.now.tied in
    let known = c.requires.known in
    let read : c.index.result.now ≡ get_or c.args.self.now.previous.items c.args.item 0 = get_or_read _ c.args.item _ (omega (arith, ring.previous_len)) c.index.ensures 0 in
    record {
      place = rw read (place-previous ring c.args.item known c.requires.not_first);
      known = omega (arith, read, previous_known ring c.args.item known c.requires.not_first);
    }
