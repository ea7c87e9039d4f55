use Rattle.std.specs.Prelude.{◌≡◌, [], All, map, vec_len, vec_capacity}
use Rattle.std.specs.List.{range_with_len}
use Rattle.steal_workers.specs.PassLogs.{pass_log}
use Rattle.steal_workers.specs.StealHandles.{own_view, places_of}
use Rattle.steal_workers.proofs.worker_deques.make_own_deques.Given as goal

abbrev pub invariant-loop-place : goal.invariant-loop-place
invariant-loop-place g l = record {
  workers : vec_len l.ends ≡ l.place;
  room : vec_capacity l.ends ≡ l.workers;
  places : places_of l.ends.items ≡ map (λ place. place) (range_with_len 0 l.place);
  views : All (λ v. v ≡ pass_log [] []) (map own_view l.ends.items);
}
