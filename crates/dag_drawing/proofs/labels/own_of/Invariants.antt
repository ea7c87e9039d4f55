use Rattle.std.proofs.Common.{◌≡◌, ◌+◌, drop}
use Rattle.dag_drawing.specs.Texts.{count_own}
use Rattle.dag_drawing.proofs.labels.own_of.Given as goal

-- those so far and the strand's own of those that are left are all of its own
abbrev pub invariant-loop-before : goal.invariant-loop-before
invariant-loop-before l = l.before + count_own l.strand (drop l.before l.accesses) ≡ count_own l.strand l.accesses
