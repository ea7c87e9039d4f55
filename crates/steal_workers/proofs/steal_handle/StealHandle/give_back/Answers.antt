use Rattle.steal_workers.proofs.Balances.{merges}
use Rattle.steal_workers.proofs.steal_handle.StealHandle.give_back.Goals as goal

pub absorb-requires-clause-rule : goal.absorb-requires-clause-rule
absorb-requires-clause-rule g c = merges _ _ _ _
