use Rattle.std.proofs.Common.{rules}
use Rattle.trace_text.proofs.trace.Draft.ask.Goals as goal

pub returns-in-Ok-clause-asked : goal.returns-in-Ok-clause-asked
returns-in-Ok-clause-asked g c = search rules
