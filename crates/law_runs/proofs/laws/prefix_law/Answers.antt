use Rattle.law_runs.proofs.Histories.{prefix_run}
use Rattle.law_runs.proofs.laws.prefix_law.Goals as goal

pub returns : goal.returns
returns c = prefix_run
