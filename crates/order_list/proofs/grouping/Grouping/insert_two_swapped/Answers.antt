use Rattle.std.proofs.Common.{◌<◌, length, arith}
use Rattle.order_list.specs.Places.{items_along}
use Rattle.order_list.proofs.Insertions.{grown-len, two-inserted}
use Rattle.order_list.proofs.grouping.Grouping.insert_two_swapped.Goals as goal

pub place_behind-requires-clause-known : goal.place_behind-requires-clause-known
place_behind-requires-clause-known g c =
    let begun = c.room_behind-gap.new.self in
    let known : c.args.after < length (items_along begun.places.items) = rw c.room_behind-gap.ensures.items c.requires.known in
    omega (arith, known, grown-len _ c.args.after c.place_behind-first.result begun.grouped.chain.listing known c.place_behind-first.ensures.items)

pub place_behind-requires-clause-room : goal.place_behind-requires-clause-room
place_behind-requires-clause-room g c =
    let before = c.place_behind-first.ensures.before in
    record { fits = omega (arith, before.fits); behind = omega (arith, before.behind) }

pub returns-clause-items : goal.returns-clause-items
returns-clause-items g c =
    two-inserted _ c.room_behind-gap.new.self.grouped.chain.listing c.requires.known c.room_behind-gap.ensures.items c.place_behind-first.ensures.item c.place_behind-first.ensures.items c.place_behind.ensures.item c.place_behind.ensures.items
