use Rattle.std.specs.Prelude.{◌≡◌, map}
use Rattle.std.specs.Vec.Iter.{into_iter_items}
use Rattle.crossbeam_deque.specs.Handles.{worker_deque, worker_view}
use Rattle.steal_workers.specs.StealHandles.{deque_of, views_of, joined_all, AllLeadTo}
use Rattle.steal_workers.proofs.joining.join_all.Given as goal

abbrev pub invariant-loop-reaches : goal.invariant-loop-reaches
invariant-loop-reaches g l = record {
  lead : AllLeadTo (map worker_deque l.owners.items) (map (λ reaches. map deque_of reaches.items) (into_iter_items l.reaches-iterator));
  views : joined_all (map worker_view l.owners.items) (map views_of (into_iter_items l.reaches-iterator)) ≡ joined_all (map worker_view l.fn.owners.items) (map views_of l.fn.passes.items);
}
