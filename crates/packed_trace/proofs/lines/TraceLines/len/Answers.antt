use Rattle.std.proofs.Common.{rules}
use Rattle.packed_trace.proofs.Whole.{counted}
use Rattle.packed_trace.proofs.lines.TraceLines.len.Goals as goal

pub returns : goal.returns
returns g c = search (rules, counted)
