use Rattle.std.specs.Prelude.{◌≡◌, map, take, vec_len}
use Rattle.steal_workers.specs.StealHandles.{own_deque, own_view, deques_of, places_of, AllLeadTo}
use Rattle.steal_workers.proofs.worker_deques.make_worker_deques.Given as goal

abbrev pub invariant-loop-place : goal.invariant-loop-place
invariant-loop-place g l = record {
  workers : vec_len l.ends ≡ l.workers;
  places : places_of l.ends.items ≡ places_of l.initial.ends.items;
  views : map own_view l.ends.items ≡ map own_view l.initial.ends.items;
  lead : AllLeadTo (map own_deque l.ends.items) (take l.place (map deques_of l.ends.items));
}
