-- What the logs of all workers say together.
use Rattle.std.specs.Prelude.{◌≡◌, ℕ, List, length}
use Rattle.std.specs.List.{All, flat_map, sum_by}
use Rattle.std.specs.List.Sorted.{IsPermutation}
use Rattle.model_histories.specs.declared.answer.Entry.{Entry}
use Rattle.model_histories.specs.declared.reply.Receipt.{Receipt}
use Rattle.locked_replay.specs.declared.worker.WorkerLog.{WorkerLog}
use Rattle.locked_replay.specs.Receipts.{numbered, Rises}

module _ {L A : Type 0} where
  -- the receipts of all logs, one log after the other
  abbrev pub all_receipts : List (WorkerLog L A) → List Receipt
  all_receipts = flat_map (λ log. log.receipts.items)

  -- what was asked on all seats
  abbrev pub all_asked : List (WorkerLog L A) → ℕ
  all_asked = sum_by (λ log. log.seat.asked)

-- in each log the receipts rise in number, and all receipts together are those of the entries, the oldest first, each once
abbrev pub AreTheirs : {L A : Type 0} → List Entry → List (WorkerLog L A) → Type 0
AreTheirs entries logs = All (λ log. Rises log.receipts.items) logs × IsPermutation (all_receipts logs) (numbered 1 entries)

-- the logs are those of the entries, the oldest first
pub record AreWhole {L A : Type 0} (entries : List Entry) (logs : List (WorkerLog L A)) : Type 0 where
  -- in each log the receipts rise in number
  pub rise : All (λ log. Rises log.receipts.items) logs
  -- all receipts together are those of the entries, each once
  pub receipts : IsPermutation (all_receipts logs) (numbered 1 entries)
  -- as much was asked on all seats as there are entries
  pub counted : all_asked logs ≡ length entries
