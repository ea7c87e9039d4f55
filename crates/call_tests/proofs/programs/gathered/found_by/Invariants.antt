use Rattle.call_tests.proofs.programs.gathered.found_by.Given as goal

abbrev pub ghosts-found_on : goal.ghosts-found_on
ghosts-found_on g a = record { name = a.blank.name; parts = a.blank.parts }
