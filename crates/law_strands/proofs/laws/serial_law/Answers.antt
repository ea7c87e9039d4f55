use Rattle.law_strands.proofs.Orders.{serial_law}
use Rattle.law_strands.proofs.laws.serial_law.Goals as goal

pub returns : goal.returns
returns c = serial_law
