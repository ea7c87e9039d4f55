use Rattle.std.proofs.Common.{rules}
use Rattle.packed_trace.proofs.Whole.{none_left}
use Rattle.packed_trace.proofs.lines.TraceLines.is_empty.Goals as goal

pub returns : goal.returns
returns g c = search (rules, none_left)
