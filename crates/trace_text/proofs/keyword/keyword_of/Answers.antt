use Rattle.std.proofs.Common.{rules}
use Rattle.trace_text.proofs.keyword.keyword_of.Goals as goal

pub returns-in-Some : goal.returns-in-Some
returns-in-Some c = search rules
