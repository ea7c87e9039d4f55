use Rattle.std.proofs.Common.{◌≡◌, drop}
use Rattle.dag_drawing.specs.Plans.{greatest}
use Rattle.dag_drawing.proofs.plan.greatest.Given as goal

-- the greatest of this and of those that are left is that of all
abbrev pub invariant-loop-number : goal.invariant-loop-number
invariant-loop-number l = greatest l.most (drop l.number-index l.numbers) ≡ greatest 0 l.numbers
