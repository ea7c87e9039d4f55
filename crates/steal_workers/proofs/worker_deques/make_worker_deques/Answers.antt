use Rattle.std.proofs.Common.{rules, ◌≡◌, ◌<◌, [], length, map, refl, sym, ap, arith, ◌∙◌}
use Rattle.std.proofs.Math.Seq.{map-set_same}
use Rattle.std.proofs.lemmas.List.{map-set, take_all, length-map}
use Rattle.std.proofs.lemmas.List.Elements.{All-same}
use Rattle.steal_workers.specs.PassLogs.{pass_log}
use Rattle.steal_workers.specs.StealHandles.{own_deque, own_view, deques_of}
use Rattle.steal_workers.proofs.Joins.{lead_more}
use Rattle.steal_workers.proofs.worker_deques.make_worker_deques.Goals as goal

pub loop-place-preserved : goal.loop-place-preserved
loop-place-preserved g c =
    let was = c.loop-place.invariant in
    let more = c.in_ok-reaches.ensures in
    let at = c.loop-place.place in
    let ends = c.make_steal_handles.new.ends.items in
    let here = c.index_mut.result.now in
    let value = c.index_mut.ensures.value in
    let within : at < length ends = search rules in
    let owns = map-set_same own_deque ends at _ here (ap own_deque value) ∙ more.deques in record {
      workers = c.make_steal_handles.ensures.workers ∙ was.workers;
      places = map-set_same (λ it. it.place) ends at _ here (ap (λ it. it.place) value) ∙ more.places ∙ was.places;
      views = map-set_same own_view ends at _ here (ap own_view value) ∙ more.views ∙ was.views;
      lead = lead_more _ _ _ _ _ _ at owns (map-set deques_of ends at _) more.reaches more.ok (omega (arith, length-map ends (deques_of), within)) was.lead;
    }

pub returns-clause-lead : goal.returns-clause-lead
returns-clause-lead g c =
    let was = c.loop-place.invariant in
    let others = map deques_of c.loop-place.ends.items in
    All-same (λ deques. deques ≡ map own_deque c.loop-place.ends.items) _ _ (sym (take_all c.loop-place.place others (omega (arith, length-map c.loop-place.ends.items (deques_of), c.loop-place.ends.ok.0, was.workers, c.loop-place-test.false)))) was.lead

pub loop-place-init : goal.loop-place-init
loop-place-init g c = record {
  workers = c.in_ok-ends.ensures.workers;
  places = refl;
  views = refl;
  lead = λ k d low. absurd (omega (arith, low));
}

pub returns-clause-workers : goal.returns-clause-workers
returns-clause-workers g c = c.loop-place.invariant.workers

pub returns-clause-places : goal.returns-clause-places
returns-clause-places g c = c.loop-place.invariant.places ∙ c.in_ok-ends.ensures.places

pub returns-clause-views : goal.returns-clause-views
returns-clause-views g c = All-same (λ v. v ≡ pass_log [] []) _ _ c.loop-place.invariant.views c.in_ok-ends.ensures.views
