use Rattle.std.proofs.Common.{◌<◌, length, arith}
use Rattle.order_list.specs.Places.{items_along}
use Rattle.order_list.proofs.Insertions.{two-len}
use Rattle.order_list.proofs.OrderList.insert_two_swapped.Goals as goal

pub returns-clause-items : goal.returns-clause-items
returns-clause-items g c = rw (← c.self.view_is) c.insert_two_swapped.ensures.items

pub returns-clause-len : goal.returns-clause-len
returns-clause-len g c =
    let list = c.self.inside.list in
    let known : c.args.after < length (items_along list.places.items) = rw (← c.self.view_is) at c.requires.known in
    rw (← c.self.view_is) (two-len (items_along list.places.items) c.args.after list.grouped.chain.listing known c.insert_two_swapped.ensures.item (omega (arith, c.insert_two_swapped.ensures.item, known)) c.insert_two_swapped.ensures.items)
