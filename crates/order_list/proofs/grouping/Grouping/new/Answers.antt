use Rattle.order_list.proofs.Rings.{order_of-one}
use Rattle.order_list.proofs.Groupings.{nexts-one, grouped-one}
use Rattle.order_list.proofs.grouping.Grouping.new.Goals as goal

pub invariant_of-result-clause-grouped : goal.invariant_of-result-clause-grouped
invariant_of-result-clause-grouped g c =
    rw (c.in_ok-new.ensures.items, c.in_ok-from_slice-2.ensures.items, c.in_ok-from_slice.ensures.items, nexts-one, order_of-one) grouped-one

pub returns-clause-items : goal.returns-clause-items
returns-clause-items g c = rw (c.in_ok-from_slice.ensures.items, nexts-one) order_of-one
