use Rattle.std.proofs.Common.{rules}
use Rattle.reducer_views.proofs.view.fits.Goals as goal

pub returns-in-Pair : goal.returns-in-Pair
returns-in-Pair c = search rules
