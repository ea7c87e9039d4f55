use Rattle.std.proofs.Common.{◌≡◌, ℕ, map}
use Rattle.std.specs.Global.{Vec}
use Rattle.race_explanations.specs.GroupNumbers.{AreNumbersOf}
use Rattle.race_explanations.proofs.Numbering.{groups_below}
use Rattle.race_explanations.proofs.found_groups.group_findings.Given as goal

-- those so far are in groups, which are found by their numbers
abbrev pub invariant-loop-place : goal.invariant-loop-place
invariant-loop-place l = record {
  grouped : map (λ (group : Vec ℕ). group.items) l.groups.items ≡ groups_below l.findings l.place l.place;
  numbered : AreNumbersOf l.findings (map (λ (group : Vec ℕ). group.items) l.groups.items) l.numbers;
}
