use Rattle.reducer_views.proofs.Following.{quiet_law}
use Rattle.reducer_views.proofs.laws.quiet_law.Goals as goal

pub returns : goal.returns
returns c = quiet_law
