-- What workers bring back, one after another.
use Rattle.std.proofs.Common.{◌≡◌, ◌+◌, List, [], ◌∷◌, ◌++◌, Option, None, map, length, refl, sym, subst, ap, arith, ◌∙◌}
use Rattle.std.proofs.lemmas.List.{map-append}
use Rattle.std.proofs.lemmas.List.Elements.{All-push}
use Rattle.crossbeam_deque.specs.Handles.{worker_deque}
use Rattle.locked_replay.specs.declared.fault.RunFault.{RunFault}
use Rattle.locked_replay.specs.declared.worker.WorkerLog.{WorkerLog}
use Rattle.locked_replay.specs.Logs.{all_receipts, all_asked}
use Rattle.steal_workers.specs.declared.worker.Worker.{Worker}
use Rattle.steal_workers.specs.declared.joining.Collection.{Collection}
use Rattle.steal_workers.specs.StealHandles.{Owner, deque_of}
use Rattle.steal_workers.specs.Faults.{IsFirst, IsFirstOf}
use Rattle.steal_workers.specs.Workers.{station_of, stations_of, TornAtJoin}
use Rattle.steal_workers.specs.Ending.{faults_of}
use Rattle.steal_workers.specs.Collecting.{Brings, Adds, CameBack}
use Rattle.steal_workers.proofs.FirstFaults.{first_more, first_alone}
use Rattle.steal_workers.proofs.Grown.{said_more, said_through, asked_more}

module _ {L A : Type 0} where
  -- none came back
  pub brings_none : (refused : Option RunFault) (back : Collection L A) → back.logs.items ≡ [] → back.owners.items ≡ [] → back.passes.items ≡ [] → back.fault ≡ refused → Brings refused [] back
  brings_none refused back logs owners passes fault = record {
    receipts = ap (map (λ log. log.receipts)) logs;
    asked = subst (λ these. all_asked these ≡ 0 + length (all_receipts these)) (sym logs) refl;
    owners = ap (map worker_deque) owners;
    passes = ap (map (λ passes. map deque_of passes.items)) passes;
    fault = subst (IsFirstOf (refused ∷ [])) (sym fault) (first_alone refused);
  }

  -- a fault that was met before any came back
  pub brings_refused : (refused : Option RunFault) (old new : Collection L A) → Brings None [] old → new.logs.items ≡ old.logs.items → new.owners.items ≡ old.owners.items → new.passes.items ≡ old.passes.items
      → new.fault ≡ refused → Brings refused [] new
  brings_refused refused old new was logs owners passes fault = record {
    receipts = ap (map (λ log. log.receipts)) logs ∙ was.receipts;
    asked = subst (λ these. all_asked these ≡ 0 + length (all_receipts these)) (sym logs) was.asked;
    owners = ap (map worker_deque) owners ∙ was.owners;
    passes = ap (map (λ passes. map deque_of passes.items)) passes ∙ was.passes;
    fault = subst (IsFirstOf (refused ∷ [])) (sym fault) (first_alone refused);
  }

  -- one more came back
  pub brings_more : (refused : Option RunFault) (workers : List (Worker L A)) (worker : Worker L A) (old new : Collection L A) (log : WorkerLog L A) (owner : Owner A) (passes : _)
      → Brings refused workers old → new.logs.items ≡ old.logs.items ++ log ∷ [] → new.owners.items ≡ old.owners.items ++ owner ∷ [] → new.passes.items ≡ old.passes.items ++ passes ∷ []
      → log.seat.asked ≡ worker.before + length log.receipts.items → log.receipts ≡ worker.receipts → owner ≡ worker.ends.owner → passes ≡ worker.ends.reaches
      → IsFirst old.fault worker.fault new.fault → Brings refused (workers ++ worker ∷ []) new
  brings_more refused workers worker old new log owner passes was logs owners all asked receipts own others first = record {
    receipts = said_more (λ (l : WorkerLog L A). l.receipts) (λ (w : Worker L A). w.receipts) old.logs.items new.logs.items log workers worker logs was.receipts receipts;
    asked = asked_more old.logs.items new.logs.items log workers worker logs was.asked asked;
    owners = said_through worker_deque (λ s. s.own) station_of old.owners.items new.owners.items owner workers worker owners was.owners (ap worker_deque own);
    passes = said_through (λ passes. map deque_of passes.items) (λ s. s.others) station_of old.passes.items new.passes.items passes workers worker all was.passes
        (ap (λ passes. map deque_of passes.items) others);
    fault = first_workers refused workers worker old.fault new.fault was.fault first;
  } where
    first_workers : (refused : Option RunFault) (workers : List (Worker L A)) (worker : Worker L A) (before after : Option RunFault) → IsFirstOf (refused ∷ faults_of workers) before → IsFirst before worker.fault after
        → IsFirstOf (refused ∷ faults_of (workers ++ worker ∷ [])) after
    first_workers refused workers worker before after were first =
        subst (λ faults. IsFirstOf (refused ∷ faults) after) (sym (map-append (λ (w : Worker L A). w.fault) workers (worker ∷ [])))
        (first_more (refused ∷ faults_of workers) before worker.fault after were first)

  -- so it is with those who began, and with the worker that one of them came back as
  pub came_none : (refused : Option RunFault) (back : Collection L A) → Brings refused [] back → CameBack [] refused back
  came_none refused back brings = ([], refl, (λ k d low. absurd (omega (arith, low))), brings)

  pub came_more : (began : List (Worker L A)) (refused : Option RunFault) (start worker : Worker L A) (old new : Collection L A)
      → CameBack began refused old → Adds worker old new → station_of worker ≡ station_of start → TornAtJoin worker → CameBack (began ++ start ∷ []) refused new
  came_more began refused start worker old new came adds same torn = (
    came.0 ++ worker ∷ [],
    map-append station_of came.0 (worker ∷ [])
        ∙ ap (λ stations. stations ++ station_of worker ∷ []) came.1
        ∙ ap (λ station. stations_of began ++ station ∷ []) same
        ∙ sym (map-append station_of began (start ∷ [])),
    All-push TornAtJoin came.0 worker came.2 torn,
    adds refused came.0 came.3,
  )
