use Rattle.std.specs.Prelude.{◌≡◌, ◌++◌, List, map, vec_len}
use Rattle.crossbeam_deque.specs.Handles.{worker_deque, worker_view}
use Rattle.steal_workers.specs.StealHandles.{deque_of, view_of, joined_each}
use Rattle.steal_workers.proofs.joining.join_each.Given as goal

abbrev pub invariant-loop-reach : goal.invariant-loop-reach
invariant-loop-reach g l = record {
  leads : (rest : List _) × (map worker_deque l.owners.items ≡ map deque_of l.reaches.items ++ rest);
  deques : map worker_deque l.owners.items ≡ map worker_deque l.initial.owners.items;
  views : joined_each (map worker_view l.owners.items) (map view_of l.reaches.items)
      ≡ joined_each (map worker_view l.initial.owners.items) (map view_of l.initial.reaches.items);
}

abbrev pub decreases-loop-reach : goal.decreases-loop-reach
decreases-loop-reach g l = vec_len l.reaches
