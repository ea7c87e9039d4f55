use Rattle.law_strands.proofs.Finish.{finish_law}
use Rattle.law_strands.proofs.laws.finish_law.Goals as goal

pub returns : goal.returns
returns c = finish_law
