use Rattle.std.proofs.Common.{refl}
use Rattle.trace_notes.proofs.Marks.{all_text, some_other}
use Rattle.trace_notes.proofs.line.note_on.Goals as goal

pub returns-in_default : goal.returns-in_default
returns-in_default c = rw (some_other c.args.line.now c.in_default.ensures) refl

pub returns : goal.returns
returns c = rw (all_text c.args.line.now c.in-Some.ensures.1) (cc (c.in-Some.ensures.0, c.note_by.ensures))
