use Rattle.std.proofs.Common.{rules, ◌≡◌, ◌++◌, ◌∷◌, [], map, sym, subst, ap, arith, ◌∙◌}
use Rattle.std.proofs.lemmas.List.{map-append, map-id}
use Rattle.std.proofs.lemmas.Iterator.Adapters.{YieldsList-from_vec}
use Rattle.std.proofs.lemmas.Iterator.Consumers.{YieldsList-end}
use Rattle.std.specs.declared.thread.PromisedHandle.{PromisedHandle}
use Rattle.steal_workers.specs.declared.pool.IdleWorker.{IdleWorker}
use Rattle.steal_workers.specs.declared.worker.Worker.{Worker}
use Rattle.steal_workers.specs.Ending.{AreSomeOf}
use Rattle.steal_workers.proofs.Endings.{some-push, some-less}
use Rattle.steal_workers.proofs.pool.start.Goals as goal

pub loop-worker-preserved-in-Ok : goal.loop-worker-preserved-in-Ok
loop-worker-preserved-in-Ok g c =
    let began = λ (h : PromisedHandle (Worker g.row.L.Denot g.row.A.Denot) (IdleWorker g.row.L.Denot g.row.A.Denot)). h.promise.0.value in
    let was = c.loop-worker.invariant in
    let running = c.loop-worker.running.items in
    let worker = c.in-Some.worker in
    let promised : began c.in-Ok.thread ≡ worker = search rules in
    let grown : map began c.push_reserved.new.self.items ≡ map began running ++ worker ∷ [] =
    ap (map began) c.push_reserved.ensures.items ∙ map-append began running (c.in-Ok.thread ∷ []) ∙ ap (λ more. map began running ++ more ∷ []) promised in record {
      room = omega (arith, was.room, c.in-Some.ensures.steps, c.push_reserved.ensures.len, c.push_reserved.ensures.capacity);
      at_most = omega (arith, was.at_most, c.in-Some.ensures.steps, c.push_reserved.ensures.len);
      hired = λ all. grown ∙ ap (λ workers. workers ++ worker ∷ []) (was.hired all);
      some = subst (λ workers. AreSomeOf workers (c.loop-worker.yielded ++ worker ∷ [])) (sym grown) (some-push (map began running) c.loop-worker.yielded worker was.some);
      fewer = λ refused. omega (arith, was.fewer refused, c.in-Some.ensures.steps, c.push_reserved.ensures.len);
    }

pub loop-worker-preserved : goal.loop-worker-preserved
loop-worker-preserved g c = record {
  room = omega (arith, c.loop-worker.invariant.room, c.in-Some.ensures.steps);
  at_most = omega (arith, c.loop-worker.invariant.at_most, c.in-Some.ensures.steps);
  hired = λ all. absurd (cc);
  some = some-less _ c.loop-worker.yielded c.in-Some.worker c.loop-worker.invariant.some;
  fewer = λ refused. omega (arith, c.loop-worker.invariant.at_most, c.in-Some.ensures.steps);
}

pub returns-clause-hired : goal.returns-clause-hired
returns-clause-hired g c all_began =
    let all = YieldsList-end (YieldsList-from_vec c.args.hired.items c.into_iter-worker-iterator.ensures.into_iter_gives.0 (omega (arith, c.into_iter-worker-iterator.ensures.into_iter_gives.1, c.args.hired.ok.0))) c.loop-worker.yielded c.loop-worker.worker-iterator c.loop-worker.yielded_by c.next.result c.next.new.self c.in-None.is c.next.ensures.steps in
    let whole : c.loop-worker.yielded ≡ c.args.hired.items = sym (map-id c.loop-worker.yielded) ∙ all.0 in
    c.loop-worker.invariant.hired all_began ∙ whole

pub returns-clause-some : goal.returns-clause-some
returns-clause-some g c =
    let all = YieldsList-end (YieldsList-from_vec c.args.hired.items c.into_iter-worker-iterator.ensures.into_iter_gives.0 (omega (arith, c.into_iter-worker-iterator.ensures.into_iter_gives.1, c.args.hired.ok.0))) c.loop-worker.yielded c.loop-worker.worker-iterator c.loop-worker.yielded_by c.next.result c.next.new.self c.in-None.is c.next.ensures.steps in
    let whole : c.loop-worker.yielded ≡ c.args.hired.items = sym (map-id c.loop-worker.yielded) ∙ all.0 in
    subst (AreSomeOf (map (λ h. h.promise.0.value) c.loop-worker.running.items)) whole c.loop-worker.invariant.some

pub returns-clause-at_most : goal.returns-clause-at_most
returns-clause-at_most g c = omega (arith, c.loop-worker.invariant.at_most)

pub returns-clause-fewer : goal.returns-clause-fewer
returns-clause-fewer g c refused = omega (arith, c.loop-worker.invariant.fewer refused)

pub loop-worker-init : goal.loop-worker-init
loop-worker-init g c =
    let began = λ (h : PromisedHandle (Worker g.row.L.Denot g.row.A.Denot) (IdleWorker g.row.L.Denot g.row.A.Denot)). h.promise.0.value in
    let made = c.requires.room in
    let left = c.into_iter-worker-iterator.ensures.into_iter_gives.1 in record {
      room = omega (arith, made.1, made.2, left);
      at_most = omega (arith, made.1, left);
      hired = λ all. ap (map began) made.0;
      some = ap (map began) made.0;
      fewer = λ refused. absurd (cc);
    }

pub push_reserved-requires : goal.push_reserved-requires
push_reserved-requires g c = omega (arith, c.loop-worker.invariant.room, c.in-Some.ensures.steps)
