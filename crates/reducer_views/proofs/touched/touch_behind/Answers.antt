use Rattle.std.proofs.Common.{rules}
use Rattle.reducer_views.proofs.touched.touch_behind.Goals as goal

pub returns-in-Some : goal.returns-in-Some
returns-in-Some c = search rules
