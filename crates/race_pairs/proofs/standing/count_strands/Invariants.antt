use Rattle.std.proofs.Common.{◌≤◌, length}
use Rattle.race_pairs.proofs.StrandCount.{AreCounted}
use Rattle.race_pairs.proofs.standing.count_strands.Given as goal

-- the entries that were passed made no strands
abbrev pub invariant-back : goal.invariant-back
invariant-back l = AreCounted l.entries l.at × (l.at ≤ length l.entries)

abbrev pub decreases-back : goal.decreases-back
decreases-back l = l.at
