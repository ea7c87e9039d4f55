use Rattle.std.proofs.Common.{rules, ◌≡◌, []}
use Rattle.std.proofs.lemmas.List.{nil_from_length}
use Rattle.packed_history.proofs.Clean.{all_short}
use Rattle.packed_history.proofs.list.Receipts.are_clean.Goals as goal

pub returns-then-is_empty : goal.returns-then-is_empty
returns-then-is_empty g c empty =
    let inside = c.self.inside in
    let no_longs : inside.longs.items ≡ [] = nil_from_length inside.longs.items (search (rules, c.if-is_empty.true, c.is_empty.ensures)) in
    let no_refusals : inside.refusals.items ≡ [] = nil_from_length inside.refusals.items (search (rules, empty, c.is_empty-then-is_empty.ensures)) in
    rw (← c.self.view_is) (all_short inside.longs.items inside.refusals.items inside.shorts.items no_longs no_refusals)
