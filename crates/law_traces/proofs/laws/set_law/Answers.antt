use Rattle.law_traces.proofs.Sets.{set_law, covering_law}
use Rattle.law_traces.proofs.laws.set_law.Goals as goal

pub returns : goal.returns
returns c = record { one = set_law; two = covering_law }
