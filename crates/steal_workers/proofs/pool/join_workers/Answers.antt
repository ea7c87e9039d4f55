use Rattle.std.proofs.Common.{◌++◌, ◌∷◌, [], map, sym, subst, ap, arith, append_assoc, append-nil, ◌∙◌}
use Rattle.std.proofs.lemmas.List.{map-append, map-id}
use Rattle.std.proofs.lemmas.Iterator.Adapters.{YieldsList-from_vec}
use Rattle.std.proofs.lemmas.Iterator.Consumers.{YieldsList-end}
use Rattle.std.specs.Vec.Iter.{into_iter_len}
use Rattle.std.specs.declared.thread.PromisedHandle.{PromisedHandle}
use Rattle.steal_workers.specs.declared.pool.IdleWorker.{IdleWorker}
use Rattle.steal_workers.specs.declared.worker.Worker.{Worker}
use Rattle.steal_workers.specs.Collecting.{CameBack, Joins}
use Rattle.steal_workers.proofs.Collected.{came_more}
use Rattle.steal_workers.proofs.pool.join_workers.Goals as goal

pub add-requires : goal.add-requires
add-requires g c =
    let was = c.loop-thread.invariant.room in
    let steps = c.in-Some.ensures.steps in
    record { room = (omega (arith, was.0, steps), omega (arith, was.1, steps), omega (arith, was.2, steps)) }

pub loop-thread-preserved : goal.loop-thread-preserved
loop-thread-preserved g c =
    let began = λ (h : PromisedHandle (Worker g.row.L.Denot g.row.A.Denot) (IdleWorker g.row.L.Denot g.row.A.Denot)). h.promise.0.value in
    let was = c.loop-thread.invariant.room in
    let yielded = c.loop-thread.yielded in
    let thread = c.in-Some.thread in
    let steps = c.in-Some.ensures.steps in record {
      room = c.add.ensures.room (into_iter_len c.next.new.self) (omega (arith, was.0, steps), omega (arith, was.1, steps), omega (arith, was.2, steps));
      joins = λ others refused came.
          subst (λ these. CameBack these refused c.add.new.self)
          (append_assoc others (map began yielded) (began thread ∷ []) ∙ ap (λ more. others ++ more) (sym (map-append began yielded (thread ∷ []))))
          (came_more (others ++ map began yielded) refused (began thread) c.join.result _ _ (c.loop-thread.invariant.joins others refused came) c.add.ensures.adds c.join.ensures.0 c.join.ensures.1);
    }

pub returns : goal.returns
returns g c =
    let all = YieldsList-end (YieldsList-from_vec c.args.running.items c.into_iter-thread-iterator.ensures.into_iter_gives.0 (omega (arith, c.into_iter-thread-iterator.ensures.into_iter_gives.1, c.args.running.ok.0))) c.loop-thread.yielded c.loop-thread.thread-iterator c.loop-thread.yielded_by c.next.result c.next.new.self c.in-None.is c.next.ensures.steps in
    subst (λ hs. Joins (map (λ h. h.promise.0.value) hs) c.args.back.now c.loop-thread.back) (sym (map-id c.loop-thread.yielded) ∙ all.0) c.loop-thread.invariant.joins

pub loop-thread-init : goal.loop-thread-init
loop-thread-init g c =
    let room = c.requires in
    let left = c.into_iter-thread-iterator.ensures.into_iter_gives.1 in record {
      room = (omega (arith, room.0, left), omega (arith, room.1, left), omega (arith, room.2, left));
      joins = λ others refused came. subst (λ these. CameBack these refused c.args.back.now) (sym (append-nil others)) came;
    }
