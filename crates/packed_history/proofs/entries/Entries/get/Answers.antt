use Rattle.packed_history.proofs.Kept.{entry_at}
use Rattle.packed_history.proofs.entries.Entries.get.Goals as goal

pub returns : goal.returns
returns g c = rw (← c.self.view_is) (entry_at c.self.inside.receipts.items c.args.at c.get.result c.entry_of.result c.get.ensures c.entry_of.ensures)
