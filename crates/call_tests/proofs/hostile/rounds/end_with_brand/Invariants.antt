use Rattle.call_tests.proofs.hostile.rounds.end_with_brand.Given as goal

abbrev pub ghosts-end_of : goal.ghosts-end_of
ghosts-end_of g a = record { name = a.blank.name; parts = a.blank.parts }
