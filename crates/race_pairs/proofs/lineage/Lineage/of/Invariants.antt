use Rattle.std.proofs.Common.{take, reverse}
use Rattle.race_pairs.specs.Lineages.{IsLineage}
use Rattle.race_pairs.proofs.lineage.Lineage.of.Given as goal

-- the lineage is that of the entries so far
abbrev pub invariant-loop-entry : goal.invariant-loop-entry
invariant-loop-entry l = IsLineage l.lineage (reverse (take l.entry-index l.entries))
