use Rattle.std.proofs.Common.{refl}
use Rattle.trace_text.proofs.place.strand.Goals as goal

pub returns-in-Ok : goal.returns-in-Ok
returns-in-Ok c = λ known. rw c.in-Some.ensures (refl, c.in-Ok.ensures.reads known)

pub returns-in-Err : goal.returns-in-Err
returns-in-Err c = λ known. rw c.in-Some.ensures (refl, c.in-Err.ensures.reads known)
