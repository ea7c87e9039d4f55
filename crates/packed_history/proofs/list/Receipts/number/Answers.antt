use Rattle.packed_history.proofs.list.Receipts.number.Goals as goal

pub returns-then-is_long : goal.returns-then-is_long
returns-then-is_long g c = c.number_beside.ensures
