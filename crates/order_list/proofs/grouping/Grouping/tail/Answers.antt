use Rattle.std.proofs.Common.{◌/◌, ◌∙◌, arith}
use Rattle.order_list.proofs.Parted.{row-later, group-later}
use Rattle.order_list.proofs.grouping.Grouping.tail.Goals as goal

pub returns-clause-row : goal.returns-clause-row
returns-clause-row g c =
    let count = c.count_from-count.result in
    let row = rw c.deref.ensures.value at c.count_from-count.ensures in
    let at = rw c.deref-2.ensures.value at c.item_ahead.ensures.value in
    rw at (row-later c.args.self.now.grouped c.tail_begin-begin.result count (count / 2) row (omega (arith, row.row.some)))

pub returns-clause-group : goal.returns-clause-group
returns-clause-group g c =
    let count = c.count_from-count.result in
    let row = rw c.deref.ensures.value at c.count_from-count.ensures in
    let at = rw c.deref-2.ensures.value at c.item_ahead.ensures.value in
    rw at (group-later c.args.self.now.grouped c.tail_begin-begin.result count (count / 2) row (omega (arith, row.row.some))) ∙ c.tail_begin-begin.ensures.group

pub count_from-count-requires-clause-chain : goal.count_from-count-requires-clause-chain
count_from-count-requires-clause-chain g c = rw c.deref.ensures.value c.args.self.now.grouped.chain

pub item_ahead-requires-clause-chain : goal.item_ahead-requires-clause-chain
item_ahead-requires-clause-chain g c = rw c.deref-2.ensures.value c.args.self.now.grouped.chain
