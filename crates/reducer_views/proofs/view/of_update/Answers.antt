use Rattle.std.proofs.Common.{refl}
use Rattle.reducer_views.proofs.view.of_update.Goals as goal

pub returns-in-Digits-clause-view : goal.returns-in-Digits-clause-view
returns-in-Digits-clause-view c = rw c.in-Digits.is refl
