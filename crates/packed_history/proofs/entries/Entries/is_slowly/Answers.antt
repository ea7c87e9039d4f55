use Rattle.std.proofs.Common.{◌<◌, length, subst, sym}
use Rattle.packed_history.specs.Entries.{Kept}
use Rattle.packed_history.proofs.Kept.{entries_same, entries_told}
use Rattle.packed_history.proofs.entries.Entries.is_slowly.Goals as goal

pub returns-then-is_plainly_refused : goal.returns-then-is_plainly_refused
returns-then-is_plainly_refused g c =
    let receipts = c.self.inside.receipts.items in
    rw (← c.self.view_is) (
      (λ told. entries_same receipts c.args.receipts.now.items c.args.at c.args.place
          (subst (λ (kept : Kept). c.args.at < length kept.items) (sym c.self.view_is) c.requires.at) c.requires.place (c.is_plainly_refused.ensures told)),
      (λ same. c.if-is_plainly_refused.true),
    )

pub returns-else-is_plainly_refused : goal.returns-else-is_plainly_refused
returns-else-is_plainly_refused g c =
    entries_told c.args.self.now.items c.args.receipts.now.items c.args.at c.args.place c.get-else-is_plainly_refused.result c.entry_of.result
    c.get.result c.is_same_entry.result c.get.ensures c.entry_of.ensures c.get-else-is_plainly_refused.ensures c.is_same_entry.ensures
