use Rattle.std.proofs.Common.{◌≡◌, get_or, arith}
use Rattle.order_list.specs.Places.{nexts_of}
use Rattle.order_list.proofs.Tied.{next_known}
use Rattle.order_list.proofs.grouping.Grouping.tail_begin.Goals as goal

pub place_at-requires : goal.place_at-requires
place_at-requires g c =
    let grouped = c.args.self.now.grouped in
    omega (arith, rw c.deref.ensures.value at c.place_at-here.ensures.next, c.deref-then-here.ensures.len, next_known grouped c.args.item c.requires, grouped.len)

pub returns-then-place_at-here-clause-known : goal.returns-then-place_at-here-clause-known
returns-then-place_at-here-clause-known g c =
    let next : c.place_at-here.result.next ≡ get_or (nexts_of c.args.self.now.places.items) c.args.item 0 = rw c.deref.ensures.value at c.place_at-here.ensures.next in
    omega (arith, next, next_known c.args.self.now.grouped c.args.item c.requires)
