use Rattle.std.specs.Prelude.{◌≡◌, [], length, take}
use Rattle.std.specs.List.{All}
use Rattle.locked_replay.specs.Receipts.{Rises, AreMarked}
use Rattle.locked_replay.specs.Logs.{all_receipts}
use Rattle.locked_replay.proofs.logs.mark_logs.Given as goal

abbrev pub invariant-loop-log : goal.invariant-loop-log
invariant-loop-log g l =
    (length l.marks ≡ length l.entries.items) ×
    (AreMarked l.initial.marks l.entries.items [] →
    All (λ log. Rises log.receipts.items) (take l.log-index l.logs) × AreMarked l.marks l.entries.items (all_receipts (take l.log-index l.logs)))
