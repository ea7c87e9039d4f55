use Rattle.std.proofs.Common.{◌≡◌, subst, sym, Some, slice_get}
use Rattle.packed_history.specs.Entries.{Kept}
use Rattle.packed_history.proofs.Clean.{clean_entry}
use Rattle.packed_history.proofs.entries.Entries.is_clean.Goals as goal

pub returns : goal.returns
returns g c told entry is =
    clean_entry c.self.inside.receipts.items c.args.at entry (c.is_clean.ensures told)
    (subst (λ (kept : Kept). slice_get kept.items c.args.at ≡ Some entry) (sym c.self.view_is) is)
