use Rattle.law_traces.proofs.Pairs.{near_pair_law, pair_cell_law, kept_pairs_law}
use Rattle.law_traces.proofs.laws.near_pairs.Goals as goal

pub returns : goal.returns
returns c = record { near = near_pair_law; of_one = pair_cell_law; left_out = kept_pairs_law }
