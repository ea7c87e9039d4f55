-- Where a worker goes on.
use Rattle.std.specs.Prelude.{◌≡◌, ℕ, Option, Some, None, Result, Ok, Err, IfOk, IfSome, IsOkAnd, IsSomeAnd}
use Rattle.model_histories.specs.declared.answer.Answer.{Answer}
use Rattle.model_histories.specs.declared.answer.Answer.TheVariants.{Split, Joined, Waits, Ended, EndedJoined, Finished}
use Rattle.locked_replay.specs.declared.fault.RunFault.{RunFault}
use Rattle.locked_replay.specs.declared.fault.RunFault.TheVariants.{Strange}
use Rattle.steal_workers.specs.declared.task.Task.{Task}
use Rattle.steal_workers.specs.declared.worker.NextStep.{NextStep}
use Rattle.steal_workers.specs.declared.worker.NextStep.TheVariants.{Ahead, Parks, Wakes, Ends}
use Rattle.steal_workers.specs.Tasks.{IsOn}

-- Where a worker goes on after an answer to a task, whose open block before it had this join, and the task's strand before and after: a
-- spawner at its next strand, a joined one at the join, one that waits is parked for its join, and whoever was last to end wakes the join.
abbrev pub GoesOn : Answer → Option ℕ → (before after : ℕ) → Result NextStep RunFault → Type 0
GoesOn (Split strands) join before after result = IfOk result (λ going. (going ≡ Ahead) × (after ≡ strands.next))
GoesOn (Joined begun) join before after result = (result ≡ Ok Ahead) × (after ≡ begun)
GoesOn Waits None before after result = result ≡ Err Strange
GoesOn Waits (Some reserved) before after result = result ≡ Ok (Parks reserved)
GoesOn Ended join before after result = result ≡ Ok Ends
GoesOn (EndedJoined begun) join before after result = result ≡ Ok (Wakes begun)
GoesOn Finished join before after result = result ≡ Ok Ends
GoesOn _ join before after result = (result ≡ Ok Ahead) × (after ≡ before)

-- What goes on in place of a task that was handed out: one that waits at its join where the last child has ended already, and where the
-- last child ends the one that has come to the join already.
abbrev pub HandsOut : {A : Type 0} → NextStep → Task A → Result (Option (Task A)) RunFault → Type 0
HandsOut Ahead task result = IsOkAnd result (λ next. IsSomeAnd next (IsOn task.strand task))
HandsOut (Parks join) task result = IfOk result (λ next. IfSome next (IsOn join task))
HandsOut (Wakes join) task result = IfOk result (λ next. IfSome next (λ woken. woken.strand ≡ join))
HandsOut Ends task result = result ≡ Ok None

-- it is handed out at a join
abbrev pub IsAtJoin : NextStep → Type 0
IsAtJoin (Parks join) = Unit {0}
IsAtJoin (Wakes join) = Unit {0}
IsAtJoin _ = ⊥
