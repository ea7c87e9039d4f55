use Rattle.run_traces.proofs.Written.{meaning_law}
use Rattle.run_traces.proofs.laws.meaning_law.Goals as goal

pub returns : goal.returns
returns c = meaning_law
