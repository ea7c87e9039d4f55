use Rattle.std.specs.Prelude.{◌≡◌, length, take}
use Rattle.std.specs.List.{sum_by}
use Rattle.locked_replay.proofs.logs.count_of.Given as goal

abbrev pub invariant-loop-log : goal.invariant-loop-log
invariant-loop-log g l = l.count ≡ sum_by (λ log. length log.receipts.items) (take l.log-index l.logs)
