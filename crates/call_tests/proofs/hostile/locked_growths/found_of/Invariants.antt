use Rattle.call_tests.proofs.hostile.locked_growths.found_of.Given as goal

abbrev pub ghosts-gathers : goal.ghosts-gathers
ghosts-gathers g a = record { name = a.blank.name; parts = a.blank.parts }
