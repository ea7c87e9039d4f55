use Rattle.std.proofs.Common.{◌≡◌, drop, None}
use Rattle.race_explanations.specs.Groups.{first_among}
use Rattle.race_explanations.proofs.group.first_among.Given as goal

-- what is found so far, and the courses that are left, give the answer
abbrev pub invariant-loop-course : goal.invariant-loop-course
invariant-loop-course l = first_among l.best (drop l.course-index l.courses) ≡ first_among None l.courses
