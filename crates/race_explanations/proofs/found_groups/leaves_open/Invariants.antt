use Rattle.std.proofs.Common.{◌≡◌, drop, false}
use Rattle.race_explanations.specs.FoundGroups.{leaves_open_place}
use Rattle.race_explanations.proofs.found_groups.leaves_open.Given as goal

-- what is found so far, and the places that are left, give the answer
abbrev pub invariant-loop-place : goal.invariant-loop-place
invariant-loop-place l = leaves_open_place l.findings l.first l.found (drop l.place-index l.places) ≡ leaves_open_place l.findings l.first false l.places
