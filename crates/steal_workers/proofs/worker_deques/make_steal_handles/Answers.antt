use Rattle.std.proofs.Common.{rules, ◌≡◌, ◌<◌, ◌+◌, length, get_or, map, take, sym, ap, ◌∙◌}
use Rattle.std.proofs.Math.Seq.{map-set_same}
use Rattle.std.proofs.lemmas.List.{map-append}
use Rattle.steal_workers.specs.StealHandles.{own_deque, own_view, deque_of, deques_of}
use Rattle.steal_workers.proofs.Joins.{one_more}
use Rattle.steal_workers.proofs.worker_deques.make_steal_handles.Goals as goal

pub loop-place-preserved : goal.loop-place-preserved
loop-place-preserved g c =
    let was = c.loop-place.invariant in
    let at = c.loop-place.place in
    let ends = c.loop-place.ends.items in
    let here = c.index_mut.result.now in
    let value = c.index_mut.ensures.value in
    let within : at < length ends = search rules in
    let made : deque_of c.in_ok-new.field-0 ≡ own_deque (get_or ends at here) = c.in_ok-new.ensures.reach.0 ∙ ap own_deque value in record {
      workers = was.workers;
      made = search rules;
      room = c.push_reserved.ensures.capacity ∙ was.room;
      places = map-set_same (λ it. it.place) ends at _ here (ap (λ it. it.place) value) ∙ was.places;
      deques = map-set_same own_deque ends at _ here (c.new.ensures.owner.0 ∙ ap own_deque value) ∙ was.deques;
      views = map-set_same own_view ends at _ here (c.new.ensures.owner.1 ∙ ap own_view value) ∙ was.views;
      others = map-set_same deques_of ends at _ here (ap deques_of value) ∙ was.others;
      reaches = ap (map deque_of) c.push_reserved.ensures.items ∙ map-append deque_of c.loop-place.reaches.items _ ∙ one_more own_deque ends _ _ (own_deque here) at here within (was.reaches ∙ ap (take at) (sym was.deques)) made ∙ ap (take (at + 1)) was.deques;
    }
