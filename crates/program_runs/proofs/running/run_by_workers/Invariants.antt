use Rattle.program_runs.proofs.running.run_by_workers.Given as goal

abbrev pub ghosts-run_over_ledger : goal.ghosts-run_over_ledger
ghosts-run_over_ledger g a = record { name = a.blank.name; parts = a.blank.parts }
