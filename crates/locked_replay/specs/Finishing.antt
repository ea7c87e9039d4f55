-- Whether a run came to its end.
use Rattle.std.specs.Prelude.{Bool, true, false, List, Result, Ok, Err, Vec, if◌then◌else◌}
use Rattle.std.specs.List.{list_any}
use Rattle.model_histories.specs.declared.answer.Answer.{Answer}
use Rattle.model_histories.specs.declared.answer.Answer.TheVariants.{Finished}
use Rattle.locked_replay.specs.declared.fault.RunFault.{RunFault}
use Rattle.locked_replay.specs.declared.fault.RunFault.TheVariants.{Strange}
use Rattle.locked_replay.specs.declared.worker.WorkerLog.{WorkerLog}

abbrev pub finishes : Answer → Bool
finishes Finished = true
finishes _ = false

module _ {L A : Type 0} where
  -- some receipt of some log is answered Finished
  abbrev pub some_finished : List (WorkerLog L A) → Bool
  some_finished = list_any (λ log. list_any (λ receipt. finishes receipt.answer) log.receipts.items)

  -- the logs of a run that came to its end
  abbrev pub finished_logs : Vec (WorkerLog L A) A → Result (Vec (WorkerLog L A) A) RunFault
  finished_logs logs = if some_finished logs.items then Ok logs else Err Strange
