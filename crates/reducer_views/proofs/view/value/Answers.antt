use Rattle.std.proofs.Common.{rules}
use Rattle.reducer_views.proofs.view.value.Goals as goal

pub returns-in-One-2 : goal.returns-in-One-2
returns-in-One-2 c = search rules
