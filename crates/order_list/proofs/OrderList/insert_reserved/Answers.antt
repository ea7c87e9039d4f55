use Rattle.std.proofs.Common.{◌<◌, length}
use Rattle.order_list.specs.Places.{items_along}
use Rattle.order_list.proofs.Insertions.{grown-len}
use Rattle.order_list.proofs.OrderList.insert_reserved.Goals as goal

pub returns-clause-items : goal.returns-clause-items
returns-clause-items g c = rw (← c.self.view_is) c.insert_reserved.ensures.items

pub returns-clause-len : goal.returns-clause-len
returns-clause-len g c =
    let list = c.self.inside.list in
    let known : c.args.after < length (items_along list.places.items) = rw (← c.self.view_is) at c.requires.known in
    rw (← c.self.view_is) (grown-len (items_along list.places.items) c.args.after c.insert_reserved.result list.grouped.chain.listing known c.insert_reserved.ensures.items)
