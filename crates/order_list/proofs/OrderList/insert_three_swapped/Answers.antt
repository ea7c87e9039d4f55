use Rattle.std.proofs.Common.{◌≡◌, ◌+◌, ◌<◌, length, arith}
use Rattle.order_list.specs.Places.{items_along}
use Rattle.order_list.proofs.Insertions.{grown-len, two-len, next-inserted}
use Rattle.order_list.proofs.OrderList.insert_three_swapped.Goals as goal

pub insert_reserved-requires-clause-known : goal.insert_reserved-requires-clause-known
insert_reserved-requires-clause-known g c =
    let list = c.self.inside.list in
    let known : c.args.after < length (items_along list.places.items) = rw (← c.self.view_is) at c.requires.known in
    let first = c.insert_two_swapped-first.ensures.item in
    let two = two-len (items_along list.places.items) c.args.after list.grouped.chain.listing known first (omega (arith, first, known)) c.insert_two_swapped-first.ensures.items in
    omega (arith, first, two)

pub returns-clause-items : goal.returns-clause-items
returns-clause-items g c =
    let list = c.self.inside.list in
    let known : c.args.after < length (items_along list.places.items) = rw (← c.self.view_is) at c.requires.known in
    let first = c.insert_two_swapped-first.ensures.item in
    let two = two-len (items_along list.places.items) c.args.after list.grouped.chain.listing known first (omega (arith, first, known)) c.insert_two_swapped-first.ensures.items in
    let third : c.insert_reserved.result ≡ c.insert_two_swapped-first.result + 2 = omega (arith, c.insert_reserved.ensures.item, first, two) in
    rw (← c.self.view_is) (next-inserted _ c.insert_two_swapped-first.result (c.insert_two_swapped-first.result + 2) c.insert_two_swapped-first.ensures.items third c.insert_reserved.ensures.items)

pub returns-clause-len : goal.returns-clause-len
returns-clause-len g c =
    let list = c.self.inside.list in
    let known : c.args.after < length (items_along list.places.items) = rw (← c.self.view_is) at c.requires.known in
    let first = c.insert_two_swapped-first.ensures.item in
    let two = two-len (items_along list.places.items) c.args.after list.grouped.chain.listing known first (omega (arith, first, known)) c.insert_two_swapped-first.ensures.items in
    let three = grown-len _ c.insert_two_swapped-first.result c.insert_reserved.result c.insert_two_swapped-first.new.self.grouped.chain.listing (omega (arith, first, two)) c.insert_reserved.ensures.items in
    rw (← c.self.view_is) (omega (arith, three, two))
