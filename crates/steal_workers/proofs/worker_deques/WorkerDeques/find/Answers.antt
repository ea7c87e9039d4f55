use Rattle.steal_workers.proofs.Balances.{takes, pops}
use Rattle.steal_workers.proofs.worker_deques.WorkerDeques.find.Goals as goal

pub pop_as-requires-clause-fifo : goal.pop_as-requires-clause-fifo
pop_as-requires-clause-fifo g c fifo = takes 1 _ _

pub pop_as-requires-clause-lifo : goal.pop_as-requires-clause-lifo
pop_as-requires-clause-lifo g c lifo = pops _ _
