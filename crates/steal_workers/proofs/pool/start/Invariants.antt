use Rattle.std.specs.Prelude.{◌≡◌, ◌+◌, ◌<◌, ◌≤◌, true, false, map, vec_len, vec_capacity}
use Rattle.std.specs.Vec.Iter.{into_iter_len}
use Rattle.steal_workers.specs.Ending.{AreSomeOf}
use Rattle.steal_workers.proofs.pool.start.Given as goal

abbrev pub invariant-loop-worker : goal.invariant-loop-worker
invariant-loop-worker g l = record {
  room : vec_len l.running + into_iter_len l.worker-iterator ≤ vec_capacity l.running;
  at_most : vec_len l.running + into_iter_len l.worker-iterator ≤ vec_len l.fn.hired;
  hired : l.all ≡ true → map (λ h. h.promise.0.value) l.running.items ≡ l.yielded;
  some : AreSomeOf (map (λ h. h.promise.0.value) l.running.items) l.yielded;
  fewer : l.all ≡ false → vec_len l.running + into_iter_len l.worker-iterator < vec_len l.fn.hired;
}
