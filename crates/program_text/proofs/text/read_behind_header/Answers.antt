use Rattle.program_text.proofs.text.read_behind_header.Goals as goal

pub returns-in-Ok-clause-means : goal.returns-in-Ok-clause-means
returns-in-Ok-clause-means g c = rw c.new-names.ensures at (rw c.in-Ok.ensures at c.read_body.ensures.means)

pub returns-in-Ok-clause-main : goal.returns-in-Ok-clause-main
returns-in-Ok-clause-main g c = c.read_body.ensures.main
