use Rattle.std.proofs.Common.{rules}
use Rattle.reducer_views.proofs.view.product.Goals as goal

pub returns-in-Sum-One-One : goal.returns-in-Sum-One-One
returns-in-Sum-One-One c = search rules
