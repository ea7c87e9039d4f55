use Rattle.steal_workers.proofs.Balances.{pushes}
use Rattle.steal_workers.proofs.worker_deques.WorkerDeques.push.Goals as goal

pub push_as-requires-clause-pushes : goal.push_as-requires-clause-pushes
push_as-requires-clause-pushes g c = pushes _ _ _
