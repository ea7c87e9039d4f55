use Rattle.std.proofs.Common.{arith}
use Rattle.order_list.proofs.Rises.{rising-one}
use Rattle.order_list.proofs.groups.Groups.new.Goals as goal

pub invariant_of-result : goal.invariant_of-result
invariant_of-result g c =
    (rw (c.in_ok-from_slice.ensures.items, c.in_ok-new.ensures.items) rising-one, omega (arith, c.in_ok-from_slice.ensures.len, c.in_ok-new.ensures.reserved))
