use Rattle.law_traces.proofs.Omissions.{other_locations_law}
use Rattle.law_traces.proofs.laws.other_locations.Goals as goal

pub returns : goal.returns
returns c = other_locations_law
