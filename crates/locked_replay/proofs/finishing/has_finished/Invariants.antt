use Rattle.std.specs.Prelude.{◌≡◌, false, take}
use Rattle.std.specs.List.{list_any}
use Rattle.locked_replay.specs.Finishing.{finishes}
use Rattle.locked_replay.proofs.finishing.has_finished.Given as goal

abbrev pub invariant-loop-at : goal.invariant-loop-at
invariant-loop-at g l = list_any (λ receipt. finishes receipt.answer) (take l.at l.receipts.items) ≡ false
