use Rattle.std.proofs.Common.{◌≡◌, take}
use Rattle.race_explanations.specs.Scenes.{setting_of}
use Rattle.race_explanations.specs.Groups.{courses_of}
use Rattle.race_explanations.proofs.group.courses_of.Given as goal

-- the courses of those so far
abbrev pub invariant-loop-place : goal.invariant-loop-place
invariant-loop-place l = l.courses.items ≡ courses_of (setting_of l.scene) l.cases (take l.place-index l.places)
