use Rattle.std.specs.Prelude.{◌≡◌, take}
use Rattle.packed_history.proofs.entries.Entries.to_vec.Given as goal

abbrev pub invariant-loop-at : goal.invariant-loop-at
invariant-loop-at g l = l.list.items ≡ take l.at l.self.items
