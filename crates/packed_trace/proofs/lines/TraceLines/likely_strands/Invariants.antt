use Rattle.std.proofs.Common.{◌≤◌}
use Rattle.packed_trace.proofs.lines.TraceLines.likely_strands.Given as goal

abbrev pub invariant-loop-part : goal.invariant-loop-part
invariant-loop-part g l = (l.spawns ≤ l.part) × (l.syncs ≤ l.part)
