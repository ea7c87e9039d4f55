use Rattle.steal_workers.proofs.Balances.{forks}
use Rattle.steal_workers.proofs.steal_handle.StealHandle.new.Goals as goal

pub another-hold-requires : goal.another-hold-requires
another-hold-requires g c = forks _ _
