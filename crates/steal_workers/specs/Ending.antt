-- What a run answers, by the workers that it hired and those that came back.
use Rattle.std.specs.Prelude.{◌≡◌, ◌⊎◌, ◌<◌, ℕ, Bool, true, false, List, [], ◌∷◌, length, map, All, Option, Some, None, Result, Err, IsOkAnd, Vec}
use Rattle.std.specs.List.{sum_by, list_any}
use Rattle.locked_replay.specs.declared.fault.RunFault.{RunFault}
use Rattle.locked_replay.specs.declared.fault.RunFault.TheVariants.{Strange, Memory}
use Rattle.locked_replay.specs.declared.worker.WorkerLog.{WorkerLog}
use Rattle.steal_workers.specs.declared.worker.Worker.{Worker}
use Rattle.steal_workers.specs.Faults.{refused_thread, IsFirstOf}
use Rattle.steal_workers.specs.Workers.{stations_of, TornAtJoin}
use Rattle.steal_workers.specs.Beginning.{own_hands, HaveRoot, IsReady}
use Rattle.locked_replay.specs.Finishing.{finishes}

module _ {L A : Type 0} where
  abbrev pub faults_of : List (Worker L A) → List (Option RunFault)
  faults_of = map (λ worker. worker.fault)

  -- whether a worker saw the run's end
  abbrev pub saw_end : List (Worker L A) → Bool
  saw_end = list_any (λ worker. list_any (λ receipt. finishes receipt.answer) worker.receipts.items)

  -- the logs hold the receipts of these workers, in their order
  abbrev pub AreLogsOf : List (Worker L A) → List (WorkerLog L A) → Type 0
  AreLogsOf workers logs = map (λ log. log.receipts) logs ≡ map (λ worker. worker.receipts) workers

  -- what a run answers by the first fault that was met, and by whether its end was seen: what the workers brought, where there was none and
  -- it was
  abbrev pub Tells : Option RunFault → Bool → List (Worker L A) → Result (Vec (WorkerLog L A) A) RunFault → Type 0
  Tells (Some fault) ended workers result = result ≡ Err fault
  Tells None true workers result = IsOkAnd result (λ logs. AreLogsOf workers logs.items)
  Tells None false workers result = result ≡ Err Strange

  -- whether all threads could be started, and how the workers came back, decide what a run answers
  abbrev pub IsTold : Bool → List (Worker L A) → Result (Vec (WorkerLog L A) A) RunFault → Type 0
  IsTold all workers result =
      (first : Option RunFault) × IsFirstOf (refused_thread all ∷ faults_of workers) first × Tells first (saw_end workers) workers result

-- the first list is the second, less some of its items
abbrev pub AreSomeOf : {X : Type 0} → List X → List X → Type 0
AreSomeOf xs [] = xs ≡ []
AreSomeOf xs (y ∷ ys) = AreSomeOf xs ys ⊎ ((rest : List _) × (xs ≡ y ∷ rest) × AreSomeOf rest ys)

-- what comes of workers that were hired
pub record Ended {L A : Type 0} (hired : List (Worker L A)) (result : Result (Vec (WorkerLog L A) A) RunFault) : Type 0 where
  -- the workers as they were to begin, those that came back, and whether all threads could be started
  pub began : List (Worker L A)
  pub back : List (Worker L A)
  pub all : Bool
  -- the task of the program's begin lies on the first worker's deque
  pub stations : stations_of began ≡ stations_of hired
  pub root : HaveRoot (own_hands began)
  -- each came back as the worker that it was, in their order: all of them, or fewer where a thread could not be started
  pub some : AreSomeOf (stations_of back) (stations_of began)
  pub each : all ≡ true → stations_of back ≡ stations_of began
  pub fewer : all ≡ false → length back < length began
  -- a join that is met twice shows in its worker's last receipt
  pub torn : All TornAtJoin back
  -- and what is answered is the first of their faults, or what they brought
  pub told : IsTold all back result

-- what a run answers whose workers were hired: want of memory before any of them began, or what comes of them
abbrev pub IsEnded : {L A : Type 0} → List (Worker L A) → Result (Vec (WorkerLog L A) A) RunFault → Type 0
IsEnded hired result = (result ≡ Err Memory) ⊎ Ended hired result

-- what a run answers: want of memory before any worker began, or what comes of so many workers, on whose seats so much had been asked
-- before
abbrev pub IsAnswered : {L A : Type 0} → (workers asked : ℕ) → Result (Vec (WorkerLog L A) A) RunFault → Type 0
IsAnswered {L} {A} workers asked result =
    (result ≡ Err Memory)
    ⊎ ((hired : List (Worker L A)) × (length hired ≡ workers) × (sum_by (λ w. w.before) hired ≡ asked) × IsReady hired × Ended hired result)
