use Rattle.std.proofs.Common.{refl}
use Rattle.trace_text.proofs.place.value.Goals as goal

pub returns-in-Some : goal.returns-in-Some
returns-in-Some c = λ known. rw c.in-Some.ensures (refl, c.number.ensures.reads known)
