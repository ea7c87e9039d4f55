use Rattle.std.specs.Prelude.{map}
use Rattle.std.specs.Vec.Iter.{into_iter_len}
use Rattle.steal_workers.specs.Collecting.{HasRoom, Joins}
use Rattle.steal_workers.proofs.pool.join_workers.Given as goal

abbrev pub invariant-loop-thread : goal.invariant-loop-thread
invariant-loop-thread g l = record {
  room : HasRoom (into_iter_len l.thread-iterator) l.back;
  joins : Joins (map (λ h. h.promise.0.value) l.yielded) l.fn.back l.back;
}
