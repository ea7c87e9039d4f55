use Rattle.std.proofs.Common.{◌≡◌, drop, None}
use Rattle.race_explanations.specs.FoundGroups.{round_place}
use Rattle.race_explanations.proofs.found_groups.round_place.Given as goal

-- what is found so far, and the places that are left, give the answer
abbrev pub invariant-loop-place : goal.invariant-loop-place
invariant-loop-place l = round_place l.findings l.found (drop l.place-index l.places) ≡ round_place l.findings None l.places
