use Rattle.law_traces.proofs.Locations.{location_law}
use Rattle.law_traces.proofs.laws.location_law.Goals as goal

pub returns : goal.returns
returns c = location_law
