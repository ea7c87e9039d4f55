use Rattle.std.proofs.Common.{arith}
use Rattle.order_list.proofs.Rings.{insert-tied, order_of-items, in_order}
use Rattle.order_list.proofs.ring.Ring.insert_reserved.Goals as goal

pub invariant_of-self-clause-tied : goal.invariant_of-self-clause-tied
invariant_of-self-clause-tied g c =
    in_order (insert-tied _ _ c.args.after c.next-following.result c.len-item.result c.args.self.now.tied c.requires.known c.next-following.ensures.value c.len-item.ensures c.push_reserved.ensures.items c.push_reserved-2.ensures.items)

pub returns-clause-items : goal.returns-clause-items
returns-clause-items g c =
    let tied = insert-tied _ _ c.args.after c.next-following.result c.len-item.result c.args.self.now.tied c.requires.known c.next-following.ensures.value c.len-item.ensures c.push_reserved.ensures.items c.push_reserved-2.ensures.items in
    order_of-items tied.chain

pub invariant_of-self-clause-few : goal.invariant_of-self-clause-few
invariant_of-self-clause-few g c = omega (arith, c.args.self.now.few)
