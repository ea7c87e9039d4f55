use Rattle.call_tests.proofs.hostile.run_growths.lacks_run.Given as goal

abbrev pub ghosts-run_and_gather : goal.ghosts-run_and_gather
ghosts-run_and_gather g a = record { name = a.blank.name; parts = a.blank.parts }
