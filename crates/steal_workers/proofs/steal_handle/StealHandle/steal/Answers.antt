use Rattle.steal_workers.proofs.Balances.{takes}
use Rattle.steal_workers.proofs.steal_handle.StealHandle.steal.Goals as goal

pub steal_as-requires-clause-takes : goal.steal_as-requires-clause-takes
steal_as-requires-clause-takes g c = takes 1 _ _
