use Rattle.std.specs.Prelude.{◌≡◌, map, take, vec_len, vec_capacity}
use Rattle.steal_workers.specs.StealHandles.{own_deque, own_view, deque_of, deques_of, places_of}
use Rattle.steal_workers.proofs.worker_deques.make_steal_handles.Given as goal

abbrev pub invariant-loop-place : goal.invariant-loop-place
invariant-loop-place g l = record {
  workers : vec_len l.ends ≡ vec_len l.fn.ends;
  made : vec_len l.reaches ≡ l.place;
  room : vec_capacity l.reaches ≡ vec_len l.fn.ends;
  places : places_of l.ends.items ≡ places_of l.fn.ends.items;
  deques : map own_deque l.ends.items ≡ map own_deque l.fn.ends.items;
  views : map own_view l.ends.items ≡ map own_view l.fn.ends.items;
  others : map deques_of l.ends.items ≡ map deques_of l.fn.ends.items;
  reaches : map deque_of l.reaches.items ≡ take l.place (map own_deque l.fn.ends.items);
}
