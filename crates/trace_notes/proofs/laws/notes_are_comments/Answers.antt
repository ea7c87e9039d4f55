use Rattle.trace_notes.proofs.Formed.{comments}
use Rattle.trace_notes.proofs.laws.notes_are_comments.Goals as goal

pub returns : goal.returns
returns c = comments
