use Rattle.law_addresses.proofs.Extremes.{extremes}
use Rattle.law_addresses.proofs.laws.extremes_law.Goals as goal

pub returns : goal.returns
returns c = extremes
