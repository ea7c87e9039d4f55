use Rattle.std.proofs.Common.{rules}
use Rattle.order_list.proofs.relabel.label_behind.Goals as goal

pub returns-clause-below : goal.returns-clause-below
returns-clause-below g c = search rules
