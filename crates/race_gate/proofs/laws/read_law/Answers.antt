use Rattle.race_gate.proofs.Finished.{read_law}
use Rattle.race_gate.proofs.laws.read_law.Goals as goal

pub returns : goal.returns
returns c = read_law
