use Rattle.law_strands.proofs.Orders.{orders_law}
use Rattle.law_strands.proofs.laws.orders_law.Goals as goal

pub returns : goal.returns
returns c = orders_law
