use Rattle.std.proofs.Common.{rules}
use Rattle.trace_text.proofs.place.monoid.Goals as goal

pub returns-in-Some : goal.returns-in-Some
returns-in-Some g c = search rules
