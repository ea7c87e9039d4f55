use Rattle.law_strands.proofs.Gatherings.{gathering_law}
use Rattle.law_strands.proofs.laws.gathering_law.Goals as goal

pub returns : goal.returns
returns c = gathering_law
