use Rattle.std.proofs.Common.{rules}
use Rattle.trace_text.proofs.print.put_number.Goals as goal

pub returns : goal.returns
returns g c = search rules
