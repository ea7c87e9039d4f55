use Rattle.std.proofs.Common.{rules, ◌≡◌, ◌<◌, ◌+◌, [], ◌∷◌, length, get_or, map, set, arith, sym, ap, ◌∙◌}
use Rattle.std.proofs.Math.Seq.{map-set_same}
use Rattle.std.proofs.lemmas.List.{map-set, get_or-map, length-map}
use Rattle.steal_workers.specs.PassLogs.{taking, times}
use Rattle.steal_workers.specs.StealHandles.{deque_of, view_of, taken_in}
use Rattle.steal_workers.proofs.Thefts.{taken_once}
use Rattle.steal_workers.proofs.worker_deques.steal_round.Goals as goal

pub returns-in-Some-clause-deques : goal.returns-in-Some-clause-deques
returns-in-Some-clause-deques g c = map-set_same deque_of c.loop.reaches.items c.if-at-all.at c.steal.new.self c.index_mut.result.now (c.steal.ensures.deque ∙ ap deque_of c.index_mut.ensures.value) ∙ c.loop.invariant.1

pub returns-in-Some-clause-takes : goal.returns-in-Some-clause-takes
returns-in-Some-clause-takes g c = λ x.
    let at = c.if-at-all.at in
    let reaches = c.loop.reaches.items in
    let strand = c.in-Some.task.strand in
    let here = c.index_mut.result.now in
    let within : at < length reaches = search rules in
    let had : view_of here ≡ get_or (map view_of reaches) at (view_of here) = ap view_of c.index_mut.ensures.value ∙ sym (get_or-map view_of reaches at here (view_of here) within) in
    let after : map view_of (set reaches at c.steal.new.self) ≡ set (map view_of reaches) at (taking strand (get_or (map view_of reaches) at (view_of here))) =
    map-set view_of reaches at c.steal.new.self ∙ ap (set (map view_of reaches) at) (c.in-Some.ensures.view ∙ ap (taking strand) had) in
    ap (taken_in x) after ∙ taken_once x (map view_of reaches) at strand (view_of here) (omega (arith, length-map reaches (view_of), within)) ∙ ap (λ views. taken_in x views + times x (strand ∷ [])) c.loop.invariant.2

pub loop-preserved : goal.loop-preserved
loop-preserved g c =
    let here = c.index_mut.result.now in
    let value = c.index_mut.ensures.value in (
      c.loop.invariant.0,
      map-set_same deque_of c.loop.reaches.items c.if-at-all.at c.steal.new.self here (c.steal.ensures.deque ∙ ap deque_of value) ∙ c.loop.invariant.1,
      map-set_same view_of c.loop.reaches.items c.if-at-all.at c.steal.new.self here (c.in_default.ensures.view ∙ ap view_of value) ∙ c.loop.invariant.2,
    )
