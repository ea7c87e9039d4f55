use Rattle.law_strands.proofs.Branches.{stability_law}
use Rattle.law_strands.proofs.laws.stability_law.Goals as goal

pub returns : goal.returns
returns c = stability_law
