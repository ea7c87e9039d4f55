use Rattle.std.proofs.Common.{refl}
use Rattle.order_list.proofs.OrderFaultFromAllocError.from.Goals as goal

pub returns : goal.returns
returns c = refl
