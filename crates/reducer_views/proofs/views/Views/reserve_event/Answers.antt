use Rattle.std.proofs.Common.{rules}
use Rattle.reducer_views.proofs.views.Views.reserve_event.Goals as goal

pub invariant_of-self-then-not-self : goal.invariant_of-self-then-not-self
invariant_of-self-then-not-self g c = search rules
