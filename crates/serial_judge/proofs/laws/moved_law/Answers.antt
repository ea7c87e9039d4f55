use Rattle.serial_judge.proofs.Moving.{remembers_moved}
use Rattle.serial_judge.proofs.laws.moved_law.Goals as goal

pub returns : goal.returns
returns c = remembers_moved
