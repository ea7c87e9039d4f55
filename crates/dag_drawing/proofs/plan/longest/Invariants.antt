use Rattle.std.proofs.Common.{◌≡◌, drop, map}
use Rattle.std.specs.Prelude.{string_bytes}
use Rattle.dag_drawing.specs.Plans.{longest}
use Rattle.dag_drawing.proofs.plan.longest.Given as goal

-- the longest of these and of those that are left is that of all
abbrev pub invariant-loop-line : goal.invariant-loop-line
invariant-loop-line l = longest l.most (map string_bytes (drop l.line-index l.lines)) ≡ longest l.initial.most (map string_bytes l.lines)
