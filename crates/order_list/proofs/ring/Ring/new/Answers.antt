use Rattle.order_list.proofs.Rings.{ring-one, order_of-one, in_order}
use Rattle.order_list.proofs.ring.Ring.new.Goals as goal

pub invariant_of-result-clause-tied : goal.invariant_of-result-clause-tied
invariant_of-result-clause-tied g c = rw (c.in_ok-from_slice.ensures.items, c.in_ok-from_slice-2.ensures.items) (in_order ring-one)

pub returns-clause-items : goal.returns-clause-items
returns-clause-items g c = rw c.in_ok-from_slice.ensures.items order_of-one
