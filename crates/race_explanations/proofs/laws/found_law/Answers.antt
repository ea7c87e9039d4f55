use Rattle.race_explanations.proofs.FoundLeads.{found_law}
use Rattle.race_explanations.proofs.laws.found_law.Goals as goal

pub returns : goal.returns
returns c = found_law
