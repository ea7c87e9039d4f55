use Rattle.std.specs.Prelude.{◌≡◌, ◌++◌, ◌<◌, List, length, take}
use Rattle.std.specs.List.{AllAdjacentBelow}
use Rattle.model_histories.specs.declared.reply.Receipt.{Receipt}
use Rattle.locked_replay.specs.Receipts.{AreMarked}
use Rattle.locked_replay.proofs.Rising.{IsBefore}
use Rattle.locked_replay.proofs.receipts.mark_all.Given as goal

abbrev pub invariant-loop-at : goal.invariant-loop-at
invariant-loop-at g l =
    (length l.marks ≡ length l.entries.items) ×
    AllAdjacentBelow (λ one next. one.number < next.number) l.receipts.items l.at ×
    IsBefore l.receipts.items l.at l.before ×
    ((met : List Receipt) → AreMarked l.initial.marks l.entries.items met → AreMarked l.marks l.entries.items (met ++ take l.at l.receipts.items))
