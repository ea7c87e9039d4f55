use Rattle.law_traces.proofs.Spawns.{remaining_law, empty_spawn_law}
use Rattle.law_traces.proofs.laws.an_empty_spawn.Goals as goal

pub returns : goal.returns
returns c = record { parallel = remaining_law; verdicts = empty_spawn_law }
