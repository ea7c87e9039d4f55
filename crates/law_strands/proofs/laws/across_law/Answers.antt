use Rattle.law_strands.proofs.Branches.{across_law}
use Rattle.law_strands.proofs.laws.across_law.Goals as goal

pub returns : goal.returns
returns c = across_law
