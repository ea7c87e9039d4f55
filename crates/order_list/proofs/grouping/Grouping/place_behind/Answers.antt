use Rattle.std.proofs.Common.{arith}
use Rattle.order_list.proofs.Rings.{order_of-items}
use Rattle.order_list.proofs.Tied.{tied, room-before, room-behind}
use Rattle.order_list.proofs.grouping.Grouping.place_behind.Goals as goal

pub invariant_of-self-clause-grouped : goal.invariant_of-self-clause-grouped
invariant_of-self-clause-grouped g c =
    let old = c.args.self.now in
    let t = c.tie.ensures in
    let now = tied old.grouped c.tie.new.places.items c.args.after c.args.ahead c.tie.result c.requires.known c.requires.some (omega (arith, t.item, old.grouped.len)) (omega (arith, t.len, old.places.ok, c.tie.new.places.ok)) t.groups t.locals t.nexts (omega (arith, c.requires.room.fits)) (omega (arith, c.requires.room.behind)) in
    rw (order_of-items now.chain) now

pub returns-clause-items : goal.returns-clause-items
returns-clause-items g c =
    let old = c.args.self.now in
    let t = c.tie.ensures in
    let now = tied old.grouped c.tie.new.places.items c.args.after c.args.ahead c.tie.result c.requires.known c.requires.some (omega (arith, t.item, old.grouped.len)) (omega (arith, t.len, old.places.ok, c.tie.new.places.ok)) t.groups t.locals t.nexts (omega (arith, c.requires.room.fits)) (omega (arith, c.requires.room.behind)) in
    order_of-items now.chain

pub returns-clause-before : goal.returns-clause-before
returns-clause-before g c =
    let old = c.args.self.now in
    let t = c.tie.ensures in
    let now = tied old.grouped c.tie.new.places.items c.args.after c.args.ahead c.tie.result c.requires.known c.requires.some (omega (arith, t.item, old.grouped.len)) (omega (arith, t.len, old.places.ok, c.tie.new.places.ok)) t.groups t.locals t.nexts (omega (arith, c.requires.room.fits)) (omega (arith, c.requires.room.behind)) in
    let room = room-before old.grouped c.tie.new.places.items c.args.after c.args.ahead c.tie.result c.requires.known (omega (arith, t.item, old.grouped.len)) (omega (arith, t.len, old.places.ok, c.tie.new.places.ok)) t.groups t.locals (omega (arith, c.requires.room.fits)) in
    record { fits = room.0; behind = rw (order_of-items now.chain) (room.1) }

pub returns-clause-behind : goal.returns-clause-behind
returns-clause-behind g c = λ gap free.
    let old = c.args.self.now in
    let t = c.tie.ensures in
    let now = tied old.grouped c.tie.new.places.items c.args.after c.args.ahead c.tie.result c.requires.known c.requires.some (omega (arith, t.item, old.grouped.len)) (omega (arith, t.len, old.places.ok, c.tie.new.places.ok)) t.groups t.locals t.nexts (omega (arith, c.requires.room.fits)) (omega (arith, c.requires.room.behind)) in
    let room = room-behind old.grouped c.tie.new.places.items c.args.after c.args.ahead c.tie.result c.requires.known (omega (arith, t.item, old.grouped.len)) (omega (arith, t.len, old.places.ok, c.tie.new.places.ok)) t.groups t.locals gap free.fits free.behind in
    record { fits = room.0; behind = rw (order_of-items now.chain) (room.1) }
