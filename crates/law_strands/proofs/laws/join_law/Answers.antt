use Rattle.law_strands.proofs.Kept.{join_law}
use Rattle.law_strands.proofs.laws.join_law.Goals as goal

pub returns : goal.returns
returns c = join_law
