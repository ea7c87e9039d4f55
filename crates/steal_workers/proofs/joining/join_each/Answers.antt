use Rattle.std.proofs.Common.{◌<◌, ◌++◌, ◌∷◌, [], length, map, set, refl, sym, ap, append-nil, arith, ◌∙◌}
use Rattle.std.specs.Prelude.{option_to_list}
use Rattle.std.proofs.Math.Seq.{map-set_same}
use Rattle.std.proofs.lemmas.List.{map-append, map-set, get_or-map, length-map}
use Rattle.crossbeam_deque.specs.Handles.{worker_deque, worker_view}
use Rattle.steal_workers.specs.StealHandles.{Owner, deque_of, view_of, joined_each}
use Rattle.steal_workers.proofs.Joins.{joined_last, joined_none, last_leads, led_to_last}
use Rattle.steal_workers.proofs.joining.join_each.Goals as goal

pub loop-reach-init : goal.loop-reach-init
loop-reach-init g c = record {
  leads = ([], sym c.requires ∙ sym (append-nil _));
  deques = refl;
  views = refl;
}

pub index_mut-requires : goal.index_mut-requires
index_mut-requires g c =
    let owners = c.loop-reach.owners.items in
    let left = c.pop.new.self.items in
    let reach = c.in-Some.reach in
    let was = c.loop-reach.invariant.leads in
    let last = c.pop.ensures.items ∙ ap (λ popped. left ++ option_to_list popped) c.in-Some.is in
    let there = led_to_last _ (map deque_of left) was.0 (deque_of reach) (deque_of reach) c.len.result (last_leads deque_of _ left reach _ was.0 was.1 last) (omega (arith, length-map left deque_of, c.len.ensures, c.pop.new.self.ok.0)) in
    omega (arith, length-map owners (λ (o : Owner _). worker_deque o), there.0, c.loop-reach.owners.ok.0)

pub give_back-requires : goal.give_back-requires
give_back-requires g c =
    let owners = c.loop-reach.owners.items in
    let left = c.pop.new.self.items in
    let reach = c.in-Some.reach in
    let here = c.index_mut.result.now in
    let was = c.loop-reach.invariant.leads in
    let last = c.pop.ensures.items ∙ ap (λ popped. left ++ option_to_list popped) c.in-Some.is in
    let there = led_to_last _ (map deque_of left) was.0 (deque_of reach) (deque_of reach) c.len.result (last_leads deque_of _ left reach _ was.0 was.1 last) (omega (arith, length-map left deque_of, c.len.ensures, c.pop.new.self.ok.0)) in
    sym there.1 ∙ get_or-map worker_deque owners c.len.result here (deque_of reach) (omega (arith, length-map owners (λ (o : Owner _). worker_deque o), there.0)) ∙ sym (ap worker_deque c.index_mut.ensures.value)

pub loop-reach-preserved : goal.loop-reach-preserved
loop-reach-preserved g c =
    let owners = c.loop-reach.owners.items in
    let left = c.pop.new.self.items in
    let reach = c.in-Some.reach in
    let at = c.len.result in
    let here = c.index_mut.result.now in
    let value = c.index_mut.ensures.value in
    let was = c.loop-reach.invariant in
    let last = c.pop.ensures.items ∙ ap (λ popped. left ++ option_to_list popped) c.in-Some.is in
    let leads = last_leads deque_of _ left reach _ was.leads.0 was.leads.1 last in
    let there = led_to_last _ (map deque_of left) was.leads.0 (deque_of reach) (deque_of reach) at leads (omega (arith, length-map left deque_of, c.len.ensures, c.pop.new.self.ok.0)) in
    let within : at < length owners = omega (arith, length-map owners (λ (o : Owner _). worker_deque o), there.0) in
    let same = map-set_same worker_deque owners at c.give_back.new.owner here (c.give_back.ensures.deque ∙ ap worker_deque value) in record {
      leads = (_, same ∙ leads);
      deques = same ∙ was.deques;
      views = ap (λ views. joined_each views (map view_of left)) (map-set worker_view owners at c.give_back.new.owner ∙ ap (set (map worker_view owners) at) c.give_back.ensures.view)
          ∙ joined_last (map worker_view owners) (map view_of left) (view_of reach) (worker_view here) (worker_view here) at (omega (arith, length-map left view_of, c.len.ensures, c.pop.new.self.ok.0))
          (omega (arith, length-map owners (λ (o : Owner _). worker_view o), within))
          (get_or-map worker_view owners at here (worker_view here) within ∙ sym (ap worker_view value))
          ∙ ap (joined_each (map worker_view owners)) (sym (map-append view_of left (reach ∷ [])) ∙ ap (map view_of) (sym last))
          ∙ was.views;
    }

pub returns-clause-deques : goal.returns-clause-deques
returns-clause-deques g c = c.loop-reach.invariant.deques

pub returns-clause-views : goal.returns-clause-views
returns-clause-views g c =
    let left = c.loop-reach.reaches in
    sym (joined_none _ (map view_of left.items) (omega (arith, length-map left.items view_of, left.ok.0, c.in_default.ensures.cases.0))) ∙ c.loop-reach.invariant.views
