use Rattle.model_accesses.specs.Limits.{most_cells}
use Rattle.trace_text.specs.Lines.{Number}
use Rattle.trace_text.proofs.Outcomes.{left_ok, left_err}
use Rattle.trace_text.proofs.place.length.Goals as goal

pub returns-in-Ok : goal.returns-in-Ok
returns-in-Ok c = λ known. rw (c.in-Some.ensures, c.in-None.ensures.0) (left_ok known (Number 1 most_cells) c.in-Some.word.now c.in-Ok.cells (c.in-Ok.ensures.reads known))

pub returns-in-Err : goal.returns-in-Err
returns-in-Err c = λ known. rw (c.in-Some.ensures, c.in-None.ensures.0) (left_err known (Number 1 most_cells) c.in-Some.word.now c.in-Err.why (c.in-Err.ensures.reads known))
