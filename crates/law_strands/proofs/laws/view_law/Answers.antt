use Rattle.law_strands.proofs.Views.{view_law}
use Rattle.law_strands.proofs.laws.view_law.Goals as goal

pub returns : goal.returns
returns c = view_law
