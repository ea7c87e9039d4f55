use Rattle.std.specs.Prelude.{◌≡◌, ◌+◌, ◌<◌, map, vec_len, vec_capacity}
use Rattle.std.specs.List.{sum_by}
use Rattle.std.specs.Vec.Iter.{into_iter_len}
use Rattle.steal_workers.proofs.pool.hire_each.Given as goal

abbrev pub invariant-loop-it : goal.invariant-loop-it
invariant-loop-it g l = record {
  room : vec_len l.hired + into_iter_len l.it-iterator < vec_capacity l.hired;
  parts : into_iter_len l.it-iterator < l.seat.parts;
  seat : l.seat.asked ≡ l.fn.seat.asked;
  none : sum_by (λ w. w.before) l.hired.items ≡ 0;
  ends : map (λ w. w.ends) l.hired.items ≡ l.yielded;
}
