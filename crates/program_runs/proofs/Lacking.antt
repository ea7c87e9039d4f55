-- Why there is no finished run of a program within the limit.
use Rattle.std.proofs.Common.{◌≡◌, ◌<◌, ℕ, List, [], ◌∷◌, ◌++◌, length, map, reverse, inl, inr, refl, ap, subst, arith}
use Rattle.std.specs.List.{All, flat_map}
use Rattle.std.proofs.lemmas.List.{length-reverse}
use Rattle.std.proofs.lemmas.List.Elements.{All-nil, All-cons, All-head, All-tail}
use Rattle.std.specs.List.Sorted.{IsPermutation}
use Rattle.model_histories.specs.declared.answer.Entry.{Entry}
use Rattle.model_histories.specs.declared.reply.Receipt.{Receipt}
use Rattle.model_histories.specs.Entries.{Entries}
use Rattle.model_histories.specs.States.{GateState}
use Rattle.race_gate.specs.States.{IsRight}
use Rattle.model_histories.specs.Extensions.{IsFinished}
use Rattle.program_text.specs.declared.program.Program.{Program}
use Rattle.program_text.specs.Shapes.{shape_in}
use Rattle.model_runs.specs.Runs.{IsFinishedRun}
use Rattle.locked_replay.specs.declared.fault.RunFault.{RunFault}
use Rattle.locked_replay.specs.declared.fault.RunFault.TheVariants as run
use Rattle.locked_replay.specs.declared.worker.WorkerLog.{WorkerLog}
use Rattle.locked_replay.specs.Receipts.{numbered, Rises}
use Rattle.locked_replay.specs.Logs.{all_receipts, all_asked, AreWhole}
use Rattle.locked_replay.specs.Strange.{IsStrangeGate}
use Rattle.locked_replay.specs.Faults.{HasFault}
use Rattle.program_runs.specs.Runs.{WantsMore, AreReceiptsOf, IsTornGate, IsLeft, LacksRun}

-- ---- logs and their receipts

module _ {L A : Type 0} where
  abbrev receipts_of : List (WorkerLog L A) → List (List Receipt)
  receipts_of logs = map (λ (log : WorkerLog L A). log.receipts.items) logs

  all_flat : (logs : List (WorkerLog L A)) → flat_map (λ (log : List Receipt). log) (receipts_of logs) ≡ all_receipts logs
  all_flat [] = refl
  all_flat (log ∷ logs) = ap (λ rest. log.receipts.items ++ rest) (all_flat logs)

  each_rises : (logs : List (WorkerLog L A)) → All Rises (receipts_of logs) → All (λ (log : WorkerLog L A). Rises log.receipts.items) logs
  each_rises [] rise = All-nil (λ (log : WorkerLog L A). Rises log.receipts.items)
  each_rises (log ∷ logs) rise =
      All-cons (λ (one : WorkerLog L A). Rises one.receipts.items) log logs
      (All-head Rises log.receipts.items (receipts_of logs) rise) (each_rises logs (All-tail Rises log.receipts.items (receipts_of logs) rise))

  whole_logs : (entries : List Entry) (logs : List (WorkerLog L A)) → AreReceiptsOf entries (receipts_of logs) (all_asked logs) → AreWhole entries logs
  whole_logs entries logs are = record {
    rise = each_rises logs are.rise;
    receipts = subst (λ l. IsPermutation l (numbered 1 entries)) (all_flat logs) are.receipts;
    counted = are.counted;
  }

-- ---- faults

-- what `gather` says of the gate and the logs
pub gathered_fault : {L A B : Type 0} (program : Program B) (limit : ℕ) (logs : List (WorkerLog L A)) (fault : RunFault) →
    (gate : GateState) × IsRight gate × HasFault program.functions (shape_in program) gate logs fault → LacksRun program.functions (shape_in program) limit fault
gathered_fault program limit logs run.Limit has = absurd has.2
gathered_fault program limit logs run.Stopped has = record { gate = has.0; right = has.1; left = inl has.2 }
gathered_fault program limit logs run.Torn has = record {
  gate = has.0;
  right = has.1;
  left = inr (record { logs = receipts_of logs; asked = all_asked logs; torn = λ are. has.2.1 (whole_logs (reverse has.0.history) logs are) });
}
gathered_fault program limit logs run.Strange has = record { gate = has.0; right = has.1; left = inr has.2.2 }
gathered_fault program limit logs run.Memory has = tt

finished_some : (entries : Entries) → IsFinished entries → 0 ≡ length (reverse entries) → ⊥
finished_some [] finished none = finished
finished_some (entry ∷ entries) finished none = omega (arith, none, length-reverse (entry ∷ entries))

-- nobody brought a finished run that is there
pub nobody_brought : (gate : GateState) → IsRight gate → IsFinished gate.history → IsLeft IsTornGate
nobody_brought gate right finished =
    record { gate = gate; right = right; left = inr (record { logs = []; asked = 0; torn = λ are. finished_some gate.history finished are.counted }) }

-- what `check_run` says of the gate
pub left_fault : {A : Type 0} (program : Program A) (limit : ℕ) (gate : GateState) (fault : RunFault) → IsRight gate →
    (fault ≡ run.Strange → IsStrangeGate program.functions (shape_in program) gate) → (fault ≡ run.Limit → ⊥) → (fault ≡ run.Stopped → ⊥) → (fault ≡ run.Torn → ⊥) →
    LacksRun program.functions (shape_in program) limit fault
left_fault program limit gate run.Limit right strange no_limit no_stop no_torn = absurd (no_limit refl)
left_fault program limit gate run.Stopped right strange no_limit no_stop no_torn = absurd (no_stop refl)
left_fault program limit gate run.Torn right strange no_limit no_stop no_torn = absurd (no_torn refl)
left_fault program limit gate run.Strange right strange no_limit no_stop no_torn = record { gate = gate; right = right; left = inr (strange refl) }
left_fault program limit gate run.Memory right strange no_limit no_stop no_torn = tt

-- a finished run beyond the limit
pub beyond_limit : {A : Type 0} (program : Program A) (limit : ℕ) (entries : List Entry) → IsFinishedRun program.functions (shape_in program) (reverse entries) →
    limit < length entries → WantsMore program.functions (shape_in program) limit
beyond_limit program limit entries run more =
    record { entries = reverse entries; run = run.0; more = inl (omega (arith, more, length-reverse entries)) }
