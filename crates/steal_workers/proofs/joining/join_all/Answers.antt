use Rattle.std.proofs.Common.{◌≡◌, [], map, sym, subst, ap, arith, ◌∙◌}
use Rattle.std.proofs.lemmas.List.Elements.{All-head, All-tail, All-same}
use Rattle.std.proofs.lemmas.Grind.{common_steps}
use Rattle.std.specs.Vec.Iter.{into_iter_items}
use Rattle.crossbeam_deque.specs.Handles.{worker_deque, worker_view}
use Rattle.steal_workers.specs.StealHandles.{deque_of, views_of, joined_all, AllLeadTo}
use Rattle.steal_workers.proofs.joining.join_all.Goals as goal

pub join_each-requires : goal.join_each-requires
join_each-requires g c =
    let was = c.loop-reaches.invariant in
    let all = All-same (λ deques. deques ≡ map worker_deque c.loop-reaches.owners.items) _ _ (sym (ap (map (λ reaches. map deque_of reaches.items)) c.in-Some.ensures.steps.0)) was.lead in
    All-head (λ deques. deques ≡ map worker_deque c.loop-reaches.owners.items) _ _ all

pub loop-reaches-preserved : goal.loop-reaches-preserved
loop-reaches-preserved g c =
    let was = c.loop-reaches.invariant in
    let all = All-same (λ deques. deques ≡ map worker_deque c.loop-reaches.owners.items) _ _ (sym (ap (map (λ reaches. map deque_of reaches.items)) c.in-Some.ensures.steps.0)) was.lead in
    let rest = All-tail (λ deques. deques ≡ map worker_deque c.loop-reaches.owners.items) _ _ all in record {
      lead = subst (λ owns. AllLeadTo owns (map (λ reaches. map deque_of reaches.items) (into_iter_items c.next.new.self))) (sym c.join_each.ensures.deques) rest;
      views = ap (λ views. joined_all views (map views_of (into_iter_items c.next.new.self))) c.join_each.ensures.views
          ∙ sym (ap (λ items. joined_all (map worker_view c.loop-reaches.owners.items) (map views_of items)) c.in-Some.ensures.steps.0)
          ∙ was.views;
    }

pub loop-reaches-init : goal.loop-reaches-init
loop-reaches-init g c =
    let given = c.into_iter-reaches-iterator.ensures.into_iter_gives.0 in record {
      lead = subst (λ items. AllLeadTo (map worker_deque c.args.owners.now.items) (map (λ reaches. map deque_of reaches.items) items)) (sym given) c.requires;
      views = ap (λ items. joined_all (map worker_view c.args.owners.now.items) (map views_of items)) given;
    }

pub returns : goal.returns
returns g c =
    let none : into_iter_items c.loop-reaches.reaches-iterator ≡ [] = grind (arith, common_steps) in
    ap (λ items. joined_all (map worker_view c.loop-reaches.owners.items) (map views_of items)) (sym none) ∙ c.loop-reaches.invariant.views
