use Rattle.program_text.proofs.text.body.Goals as goal

pub returns-in-Ok-clause-means : goal.returns-in-Ok-clause-means
returns-in-Ok-clause-means g c = rw c.new-draft.ensures at c.in-Ok.ensures.means

pub returns-in-Ok-clause-main : goal.returns-in-Ok-clause-main
returns-in-Ok-clause-main g c = c.in-Ok.ensures.main

pub returns-clause-means : goal.returns-clause-means
returns-clause-means g c = rw c.new-draft.ensures at c.in-Err.ensures.means
