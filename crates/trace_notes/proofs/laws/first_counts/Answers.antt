use Rattle.trace_notes.proofs.Formed.{first_counts}
use Rattle.trace_notes.proofs.laws.first_counts.Goals as goal

pub returns : goal.returns
returns c = first_counts
