use Rattle.race_gate.proofs.Races.{verdict_law}
use Rattle.race_gate.proofs.laws.verdict_law.Goals as goal

pub returns : goal.returns
returns c = verdict_law
