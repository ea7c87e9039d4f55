use Rattle.std.proofs.Common.{◌≡◌, drop, false}
use Rattle.race_explanations.specs.Groups.{leaves_open}
use Rattle.race_explanations.proofs.group.leaves_open.Given as goal

-- what is found so far, and the courses that are left, give the answer
abbrev pub invariant-loop-course : goal.invariant-loop-course
invariant-loop-course l = leaves_open l.first l.found (drop l.course-index l.courses) ≡ leaves_open l.first false l.courses
