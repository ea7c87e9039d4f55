use Rattle.std.proofs.Common.{◌≡◌, drop, None}
use Rattle.race_explanations.specs.FoundGroups.{first_place}
use Rattle.race_explanations.proofs.found_groups.first_place.Given as goal

-- what is found so far, and the places that are left, give the answer
abbrev pub invariant-loop-place : goal.invariant-loop-place
invariant-loop-place l = first_place l.findings l.best (drop l.place-index l.places) ≡ first_place l.findings None l.places
