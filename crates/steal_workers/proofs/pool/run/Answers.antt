use Rattle.std.proofs.Common.{rules, ◌≡◌, ◌+◌, ℕ, List, Result, inl, inr, length, ap, arith, ◌∙◌}
use Rattle.std.specs.Prelude.{Vec}
use Rattle.locked_replay.specs.Logs.{all_receipts}
use Rattle.std.specs.List.{sum_by}
use Rattle.locked_replay.specs.declared.fault.RunFault.{RunFault}
use Rattle.locked_replay.specs.declared.worker.WorkerLog.{WorkerLog}
use Rattle.steal_workers.specs.declared.worker.Worker.{Worker}
use Rattle.steal_workers.specs.Beginning.{IsReady}
use Rattle.steal_workers.specs.Ending.{IsEnded, IsAnswered}
use Rattle.steal_workers.proofs.Asking.{if_ok}
use Rattle.steal_workers.proofs.pool.run.Goals as goal

answered : {L A : Type 0} (workers asked : ℕ) (hired : List (Worker L A)) (result : Result (Vec (WorkerLog L A) A) RunFault) → length hired ≡ workers → sum_by (λ w. w.before) hired ≡ asked → IsReady hired
    → IsEnded hired result → IsAnswered workers asked result
answered workers asked hired result many before ready (inl none) = inl none
answered workers asked hired result many before ready (inr ended) = inr (hired, many, before, ready, ended)

pub hire-requires : goal.hire-requires
hire-requires g c =
    let made = c.in_ok-make_worker_deques.ensures in record {
      workers = omega (arith, made.workers, c.requires.workers.0);
      parts = omega (arith, made.workers, c.requires.parts);
      lead = made.lead;
      views = made.views;
    }

-- a search through so many bounds is long
pub run_in_scope-requires : goal.run_in_scope-requires
run_in_scope-requires g c =
    let bounds = c.type_bounds in
    (bounds.send-L, (bounds.send-A, (bounds.sync-A, (bounds.sync-G, (bounds.sync-R, (bounds.frees-A-Allocator, c.in_ok-hired.ensures.ready))))))

pub returns-in_err-make_worker_deques-clause-answered : goal.returns-in_err-make_worker_deques-clause-answered
returns-in_err-make_worker_deques-clause-answered g c = inl (search rules)

pub returns-in_err-hired-clause-answered : goal.returns-in_err-hired-clause-answered
returns-in_err-hired-clause-answered g c = inl (search rules)

pub returns-clause-one_each : goal.returns-clause-one_each
returns-clause-one_each g c =
    let hired = c.in_ok-hired.hired in
    if_ok c.run_in_scope.result _ _ c.run_in_scope.ensures.0 (λ logs full. full.0 ∙ omega (arith, c.in_ok-hired.ensures.workers, c.in_ok-make_worker_deques.ensures.workers, hired.ok.0))

pub returns-clause-counted : goal.returns-clause-counted
returns-clause-counted g c =
    if_ok c.run_in_scope.result _ _ c.run_in_scope.ensures.0 (λ logs full. full.1 ∙ ap (λ asked. asked + length (all_receipts logs.items)) c.in_ok-hired.ensures.before)

pub returns-clause-finished : goal.returns-clause-finished
returns-clause-finished g c = if_ok c.run_in_scope.result _ _ c.run_in_scope.ensures.0 (λ logs full. full.2)

pub returns-clause-answered : goal.returns-clause-answered
returns-clause-answered g c =
    let hired = c.in_ok-hired.hired in
    answered _ _ hired.items c.run_in_scope.result (omega (arith, c.in_ok-hired.ensures.workers, c.in_ok-make_worker_deques.ensures.workers, hired.ok.0)) c.in_ok-hired.ensures.before c.in_ok-hired.ensures.ready c.run_in_scope.ensures.1
