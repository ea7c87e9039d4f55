use Rattle.law_strands.proofs.Counts.{count_law}
use Rattle.law_strands.proofs.laws.count_law.Goals as goal

pub returns : goal.returns
returns c = count_law
