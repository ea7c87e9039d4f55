use Rattle.law_traces.proofs.Omissions.{equal_locations_law, left_out_location_law}
use Rattle.law_traces.proofs.laws.equal_locations.Goals as goal

pub returns : goal.returns
returns c = record { in_one = equal_locations_law; left_out = left_out_location_law }
