use Rattle.call_tests.proofs.hostile.receipts.check_changes.Given as goal

abbrev pub ghosts-gather_changed : goal.ghosts-gather_changed
ghosts-gather_changed g a = record { name = a.blank.name; parts = a.blank.parts }
