use Rattle.std.proofs.Common.{◌≤◌, ◌+◌, length}
use Rattle.source_quotes.proofs.scene.open_at.Given as goal

-- no more ends were passed than lines
abbrev pub invariant-loop-place : goal.invariant-loop-place
invariant-loop-place l = l.ends + l.place ≤ length l.lines

abbrev pub decreases-loop-place : goal.decreases-loop-place
decreases-loop-place l = l.place
