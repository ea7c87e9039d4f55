use Rattle.std.specs.Prelude.{◌≡◌}
use Rattle.steal_workers.specs.Workers.{station_of}
use Rattle.steal_workers.proofs.worker.Worker.walk.Given as goal

abbrev pub invariant-loop : goal.invariant-loop
invariant-loop g l = station_of l.self ≡ station_of l.fn.self
