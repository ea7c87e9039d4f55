use Rattle.trace_notes.proofs.Formed.{places_formed}
use Rattle.trace_notes.proofs.laws.places_are_formed.Goals as goal

pub returns : goal.returns
returns c = places_formed
