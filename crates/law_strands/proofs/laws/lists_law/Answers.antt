use Rattle.law_strands.proofs.Lists.{lists_law}
use Rattle.law_strands.proofs.laws.lists_law.Goals as goal

pub returns : goal.returns
returns c = lists_law
