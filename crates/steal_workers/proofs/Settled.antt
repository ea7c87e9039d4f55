-- What a run answers of what its workers brought back.
use Rattle.std.proofs.Common.{◌≡◌, ◌+◌, ◌<◌, Bool, true, false, List, ◌∷◌, Option, Some, None, Result, Ok, Err, inr, length, refl, sym, subst, ap, arith, ◌∙◌}
use Rattle.std.specs.Prelude.{All, IfOk, Vec, if◌then◌else◌}
use Rattle.std.proofs.lemmas.List.{length-map}
use Rattle.locked_replay.specs.declared.fault.RunFault.{RunFault}
use Rattle.locked_replay.specs.declared.fault.RunFault.TheVariants.{Strange}
use Rattle.locked_replay.specs.declared.worker.WorkerLog.{WorkerLog}
use Rattle.locked_replay.specs.Logs.{all_receipts}
use Rattle.locked_replay.specs.Finishing.{some_finished, finished_logs}
use Rattle.steal_workers.specs.declared.worker.Worker.{Worker}
use Rattle.steal_workers.specs.declared.joining.Collection.{Collection}
use Rattle.steal_workers.specs.Faults.{refused_thread, IsFirstOf}
use Rattle.steal_workers.specs.StealHandles.{AllLeadTo}
use Rattle.steal_workers.specs.Workers.{stations_of, owns_of, others_of, TornAtJoin}
use Rattle.steal_workers.specs.Beginning.{own_hands, HaveRoot}
use Rattle.steal_workers.specs.Ending.{AreLogsOf, AreSomeOf, faults_of, saw_end, Tells}
use Rattle.steal_workers.specs.Collecting.{Brings, owned, led_to, settled, AreFull, Completes}
use Rattle.steal_workers.proofs.FirstFaults.{none_refused}
use Rattle.steal_workers.proofs.Joins.{lead_same}
use Rattle.steal_workers.proofs.Ready.{same_before, same_end, same_many}

chosen : {T : Type 0} (b : Bool) (P : T → Type 0) (x y : T) → (b ≡ true → P x) → (b ≡ false → P y) → P (if b then x else y)
chosen true P x y one other = one refl
chosen false P x y one other = other refl

module _ {L A : Type 0} where
  -- what holds of logs with the run's end, and of none, holds of what is answered
  by_end : (logs : Vec (WorkerLog L A) A) (result : Result (Vec (WorkerLog L A) A) RunFault) (P : Result (Vec (WorkerLog L A) A) RunFault → Type 0) → result ≡ finished_logs logs
      → (some_finished logs.items ≡ true → P (Ok logs)) → (some_finished logs.items ≡ false → P (Err Strange)) → P result
  by_end logs result P is one other = subst P (sym is) (chosen (some_finished logs.items) P (Ok logs) (Err Strange) one other)

  tells : (fault : Option RunFault) (workers : List (Worker L A)) (logs : Vec (WorkerLog L A) A) (result : Result (Vec (WorkerLog L A) A) RunFault) → result ≡ settled fault logs → AreLogsOf workers logs.items
      → Tells fault (saw_end workers) workers result
  tells (Some fault) workers logs result is these = is
  tells None workers logs result is these =
      let same = same_end workers logs.items these in
      by_end logs result (Tells None (saw_end workers) workers) is
      (λ ended. subst (λ end. Tells None end workers (Ok logs)) (sym ended ∙ same) these)
      (λ cut. subst (λ end. Tells None end workers (Err Strange)) (sym cut ∙ same) refl)

  full : (fault : Option RunFault) (hired : List (Worker L A)) (logs : Vec (WorkerLog L A) A) (result : Result (Vec (WorkerLog L A) A) RunFault) → result ≡ settled fault logs
      → (fault ≡ None → some_finished logs.items ≡ true → AreFull hired logs) → IfOk result (AreFull hired)
  full (Some fault) hired logs result is whole = subst (λ r. IfOk r (AreFull hired)) (sym is) tt
  full None hired logs result is whole = by_end logs result (λ r. IfOk r (AreFull hired)) is (whole refl) (λ cut. tt)

  -- where no fault was met, all threads could be started
  all_began : (all : Bool) (workers : List (Worker L A)) (refused : Option RunFault) (back : Collection L A) → Brings refused workers back → refused ≡ refused_thread all → back.fault ≡ None → all ≡ true
  all_began all workers refused back brings told none =
      none_refused all (faults_of workers)
      (subst (IsFirstOf (refused_thread all ∷ faults_of workers)) none (subst (λ fault. IsFirstOf (fault ∷ faults_of workers) back.fault) told brings.fault))

  -- then the workers' passes lead to all deques
  pub leads : (hired workers : List (Worker L A)) (all : Bool) (refused : Option RunFault) (back : Collection L A) → Brings refused workers back → refused ≡ refused_thread all
      → (all ≡ true → stations_of workers ≡ stations_of hired) → AllLeadTo (owns_of (stations_of hired)) (others_of (stations_of hired)) → back.fault ≡ None → AllLeadTo (owned back) (led_to back)
  leads hired workers all refused back brings told each lead none =
      let same = each (all_began all workers refused back brings told none) in
      lead_same _ _ _ _ (brings.owners ∙ ap owns_of same) (brings.passes ∙ ap others_of same) lead

  pub completes : (hired began workers : List (Worker L A)) (all : Bool) (refused : Option RunFault) (back : Collection L A) (result : Result (Vec (WorkerLog L A) A) RunFault) → result ≡ settled back.fault back.logs
      → Brings refused workers back → refused ≡ refused_thread all → stations_of began ≡ stations_of hired → HaveRoot (own_hands began) → AreSomeOf (stations_of workers) (stations_of began)
      → (all ≡ true → stations_of workers ≡ stations_of began) → (all ≡ false → length workers < length began) → All TornAtJoin workers → Completes hired result
  completes hired began workers all refused back result is brings told stations root some each fewer torn = (
    full back.fault hired back.logs result is (λ none ended.
        let same = each (all_began all workers refused back brings told none) ∙ stations in
        let many = same_many hired workers same in
        let logs = back.logs in (
          omega (arith, ap length brings.receipts, length-map logs.items (λ log. log.receipts), length-map workers (λ worker. worker.receipts), logs.ok.0, many),
          brings.asked ∙ ap (λ before. before + length (all_receipts logs.items)) (same_before hired workers same),
          ended,
        )),
    inr (record {
      began = began;
      back = workers;
      all = all;
      stations = stations;
      root = root;
      some = some;
      each = each;
      fewer = fewer;
      torn = torn;
      told = (back.fault, subst (λ fault. IsFirstOf (fault ∷ faults_of workers) back.fault) told brings.fault, tells back.fault workers back.logs result is brings.receipts);
    }),
  )
