use Rattle.trace_text.specs.Lines.{Mark}
use Rattle.trace_text.proofs.Outcomes.{left_ok, left_err}
use Rattle.trace_text.proofs.place.mark.Goals as goal

pub returns-in-Ok : goal.returns-in-Ok
returns-in-Ok c = λ known. rw (c.in-Some.ensures, c.in-None.ensures.0) (left_ok known Mark c.in-Some.word.now c.in-Ok.line (c.in-Ok.ensures known))

pub returns-in-Err : goal.returns-in-Err
returns-in-Err c = λ known. rw (c.in-Some.ensures, c.in-None.ensures.0) (left_err known Mark c.in-Some.word.now c.in-Err.why (c.in-Err.ensures known))
