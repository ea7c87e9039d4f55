use Rattle.reducer_views.proofs.Associative.{monoid_law}
use Rattle.reducer_views.proofs.laws.monoid_law.Goals as goal

pub returns : goal.returns
returns c = monoid_law
