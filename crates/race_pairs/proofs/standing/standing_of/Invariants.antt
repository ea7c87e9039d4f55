use Rattle.std.proofs.Common.{◌≤◌, length}
use Rattle.race_pairs.proofs.Statuses.{IsBehind}
use Rattle.race_pairs.proofs.standing.standing_of.Given as goal

-- what the entries that were passed made of the strand is what those that are left made of it
abbrev pub invariant-back : goal.invariant-back
invariant-back l = IsBehind l.entries l.fn.strand l.at × (l.at ≤ length l.entries)

abbrev pub decreases-back : goal.decreases-back
decreases-back l = l.at
