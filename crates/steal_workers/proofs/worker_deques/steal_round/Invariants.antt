use Rattle.std.specs.Prelude.{◌≡◌, map, vec_len}
use Rattle.steal_workers.specs.StealHandles.{deque_of, view_of}
use Rattle.steal_workers.proofs.worker_deques.steal_round.Given as goal

abbrev pub invariant-loop : goal.invariant-loop
invariant-loop g l = (l.all ≡ vec_len l.reaches) × (map deque_of l.reaches.items ≡ map deque_of l.fn.reaches.items) × (map view_of l.reaches.items ≡ map view_of l.fn.reaches.items)
