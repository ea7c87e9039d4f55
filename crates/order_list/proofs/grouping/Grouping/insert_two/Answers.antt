use Rattle.std.proofs.Common.{◌+◌, ◌-◌, arith}
use Rattle.order_list.specs.Places.{HasRoom}
use Rattle.order_list.proofs.Insertions.{two-inserted, inserted-known}
use Rattle.order_list.proofs.grouping.Grouping.insert_two.Goals as goal

pub place_behind-requires-clause-known : goal.place_behind-requires-clause-known
place_behind-requires-clause-known g c =
    inserted-known c.room_behind-gap.new.self.grouped.chain.listing c.requires.known c.room_behind-gap.ensures.items c.place_behind-first.ensures.item c.place_behind-first.ensures.items

pub place_behind-requires-clause-room : goal.place_behind-requires-clause-room
place_behind-requires-clause-room g c =
    let gap = c.room_behind-gap.result in
    let room = c.room_behind-gap.ensures.room in
    let whole : HasRoom c.room_behind-gap.new.self.groups.items c.room_behind-gap.new.self.places.items c.args.after (1 + (gap - 1)) = record { fits = omega (arith, room.fits); behind = omega (arith, room.behind) } in
    let behind = c.place_behind-first.ensures.behind (gap - 1) whole in
    record { fits = omega (arith, behind.fits); behind = omega (arith, behind.behind) }

pub returns-clause-items : goal.returns-clause-items
returns-clause-items g c =
    two-inserted _ c.room_behind-gap.new.self.grouped.chain.listing c.requires.known c.room_behind-gap.ensures.items c.place_behind-first.ensures.item c.place_behind-first.ensures.items c.place_behind.ensures.item c.place_behind.ensures.items
