use Rattle.steal_workers.proofs.pool.run_in_scope.Goals as goal

pub returns : goal.returns
returns g c = c.scoped.ensures.1
