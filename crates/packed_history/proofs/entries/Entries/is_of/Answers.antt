use Rattle.std.proofs.Common.{◌<◌, length, subst, sym}
use Rattle.packed_history.specs.Entries.{Kept}
use Rattle.packed_history.proofs.Kept.{entries_same}
use Rattle.packed_history.proofs.entries.Entries.is_of.Goals as goal

pub returns-then-is_plainly : goal.returns-then-is_plainly
returns-then-is_plainly g c =
    let receipts = c.self.inside.receipts.items in
    rw (← c.self.view_is) (
      (λ told. entries_same receipts c.args.receipts.now.items c.args.at c.args.place
          (subst (λ (kept : Kept). c.args.at < length kept.items) (sym c.self.view_is) c.requires.at) c.requires.place (c.is_plainly.ensures told)),
      (λ same. c.if-is_plainly.true),
    )

pub returns-else-is_plainly : goal.returns-else-is_plainly
returns-else-is_plainly g c = c.is_slowly.ensures
