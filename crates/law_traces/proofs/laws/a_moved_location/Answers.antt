use Rattle.law_traces.proofs.Moves.{moved_strands_law, moved_location_law, moved_covering_law, stand_in_law}
use Rattle.law_traces.proofs.Functions.{function_law}
use Rattle.law_traces.proofs.laws.a_moved_location.Goals as goal

pub returns : goal.returns
returns c = record { parallel = moved_strands_law; same = moved_location_law; covered = moved_covering_law; in_function = function_law; left_out = stand_in_law }
