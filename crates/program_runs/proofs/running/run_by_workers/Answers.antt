use Rattle.program_runs.proofs.running.run_by_workers.Goals as goal

pub returns-clause-whole : goal.returns-clause-whole
returns-clause-whole g c = c.run_over_ledger.ensures.whole

pub returns-clause-fault : goal.returns-clause-fault
returns-clause-fault g c = c.run_over_ledger.ensures.fault
