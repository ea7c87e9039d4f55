use Rattle.std.proofs.Common.{refl}
use Rattle.reducer_views.proofs.view.identity.Goals as goal

pub returns-in-Min-clause-view : goal.returns-in-Min-clause-view
returns-in-Min-clause-view c = rw c.in-Min.is refl
