use Rattle.std.proofs.Common.{◌≡◌, drop, false}
use Rattle.race_explanations.specs.Groups.{has_round}
use Rattle.race_explanations.proofs.group.has_round.Given as goal

-- what is found so far, and the courses that are left, give the answer
abbrev pub invariant-loop-course : goal.invariant-loop-course
invariant-loop-course l = has_round l.found (drop l.course-index l.courses) ≡ has_round false l.courses
