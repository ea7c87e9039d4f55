use Rattle.std.proofs.Common.{rules}
use Rattle.trace_text.proofs.place.end.Goals as goal

pub returns-in-None : goal.returns-in-None
returns-in-None c = search rules
