use Rattle.race_gate.proofs.Races.{race_law}
use Rattle.race_gate.proofs.laws.race_law.Goals as goal

pub returns : goal.returns
returns c = race_law
