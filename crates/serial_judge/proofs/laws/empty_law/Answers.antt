use Rattle.serial_judge.proofs.Beginning.{empty_law}
use Rattle.serial_judge.proofs.laws.empty_law.Goals as goal

pub returns : goal.returns
returns c = empty_law
