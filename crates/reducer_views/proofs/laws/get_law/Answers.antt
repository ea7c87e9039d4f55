use Rattle.reducer_views.proofs.Gets.{get_law}
use Rattle.reducer_views.proofs.laws.get_law.Goals as goal

pub returns : goal.returns
returns c = get_law
