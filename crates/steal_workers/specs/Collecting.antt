-- What workers have brought back, and what is answered of it.
use Rattle.std.specs.Prelude.{◌≡◌, ◌+◌, ◌≤◌, ℕ, true, List, [], ◌∷◌, ◌++◌, length, map, All, Option, Some, None, Result, Err, IfOk, Vec, vec_len, vec_capacity}
use Rattle.std.specs.List.{sum_by}
use Rattle.crossbeam_deque.specs.Handles.{worker_deque}
use Rattle.locked_replay.specs.declared.fault.RunFault.{RunFault}
use Rattle.locked_replay.specs.declared.worker.WorkerLog.{WorkerLog}
use Rattle.locked_replay.specs.Logs.{all_receipts, all_asked}
use Rattle.locked_replay.specs.Finishing.{some_finished, finished_logs}
use Rattle.steal_workers.specs.declared.worker.Worker.{Worker}
use Rattle.steal_workers.specs.declared.joining.Collection.{Collection}
use Rattle.steal_workers.specs.StealHandles.{Deque, deque_of}
use Rattle.steal_workers.specs.Faults.{IsFirstOf}
use Rattle.steal_workers.specs.Workers.{stations_of, owns_of, others_of, TornAtJoin}
use Rattle.steal_workers.specs.Ending.{AreLogsOf, faults_of, IsEnded}

module _ {L A : Type 0} where
  -- room for what so many workers more bring back
  abbrev pub HasRoom : ℕ → Collection L A → Type 0
  HasRoom more back =
      (vec_len back.logs + more ≤ vec_capacity back.logs)
      × (vec_len back.owners + more ≤ vec_capacity back.owners)
      × (vec_len back.passes + more ≤ vec_capacity back.passes)

  -- the same was brought back
  abbrev pub AreSame : Collection L A → Collection L A → Type 0
  AreSame old new =
      (new.logs.items ≡ old.logs.items) × (new.owners.items ≡ old.owners.items) × (new.passes.items ≡ old.passes.items)
      × (new.fault ≡ old.fault)

  -- the deques of the owners, and to which each worker's passes lead
  abbrev pub owned : Collection L A → List (Deque A)
  owned back = map worker_deque back.owners.items

  abbrev pub led_to : Collection L A → List (List (Deque A))
  led_to back = map (λ passes. map deque_of passes.items) back.passes.items

-- it is what these workers bring back, and the first of their faults and of one that was met before
pub record Brings {L A : Type 0} (refused : Option RunFault) (workers : List (Worker L A)) (back : Collection L A) : Type 0 where
  pub receipts : AreLogsOf workers back.logs.items
  pub asked : all_asked back.logs.items ≡ sum_by (λ w. w.before) workers + length (all_receipts back.logs.items)
  pub owners : owned back ≡ owns_of (stations_of workers)
  pub passes : led_to back ≡ others_of (stations_of workers)
  pub fault : IsFirstOf (refused ∷ faults_of workers) back.fault

module _ {L A : Type 0} where
  -- one more worker's is added to what others brought back
  abbrev pub Adds : Worker L A → Collection L A → Collection L A → Type 0
  Adds worker old new =
      (refused : Option RunFault) (workers : List (Worker L A)) → Brings refused workers old → Brings refused (workers ++ worker ∷ []) new

  -- those who began so came back, each as the worker that it was, and a join that was met twice shows in its worker's last receipt
  abbrev pub CameBack : List (Worker L A) → Option RunFault → Collection L A → Type 0
  CameBack began refused back =
      (workers : List (Worker L A)) × (stations_of workers ≡ stations_of began) × All TornAtJoin workers × Brings refused workers back

  -- those who began so are added to others
  abbrev pub Joins : List (Worker L A) → Collection L A → Collection L A → Type 0
  Joins began old new = (others : List (Worker L A)) (refused : Option RunFault) → CameBack others refused old → CameBack (others ++ began) refused new

  -- what a run answers of what it collected: the first fault, where one was met, and otherwise the logs, where one has the run's end
  abbrev pub settled : Option RunFault → Vec (WorkerLog L A) A → Result (Vec (WorkerLog L A) A) RunFault
  settled None logs = finished_logs logs
  settled (Some fault) logs = Err fault

  -- a log for each worker, with what was asked since, and a receipt of the run's end
  abbrev pub AreFull : List (Worker L A) → Vec (WorkerLog L A) A → Type 0
  AreFull hired logs =
      (vec_len logs ≡ length hired)
      × (all_asked logs.items ≡ sum_by (λ w. w.before) hired + length (all_receipts logs.items))
      × (some_finished logs.items ≡ true)

  -- what comes of workers that were hired, and their logs
  abbrev pub Completes : List (Worker L A) → Result (Vec (WorkerLog L A) A) RunFault → Type 0
  Completes hired result = IfOk result (AreFull hired) × IsEnded hired result
