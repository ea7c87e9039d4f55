use Rattle.race_gate.proofs.Values.{value_law}
use Rattle.race_gate.proofs.laws.value_law.Goals as goal

pub returns : goal.returns
returns c = value_law
