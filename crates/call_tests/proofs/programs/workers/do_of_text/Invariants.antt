use Rattle.call_tests.proofs.programs.workers.do_of_text.Given as goal

abbrev pub ghosts-do_alike : goal.ghosts-do_alike
ghosts-do_alike g a = record { name = a.blank.name; parts = a.blank.parts }
