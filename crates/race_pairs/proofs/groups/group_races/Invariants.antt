use Rattle.race_pairs.specs.Groups.{AreGroupsUpTo, AreFound}
use Rattle.race_pairs.proofs.groups.group_races.Given as goal

-- those so far are grouped
abbrev pub invariant-loop-place : goal.invariant-loop-place
invariant-loop-place l = record {
  found : AreFound l.known l.groups.items;
  grouped : AreGroupsUpTo l.races l.place l.groups.items;
}
