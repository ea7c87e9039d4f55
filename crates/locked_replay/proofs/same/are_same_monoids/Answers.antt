use Rattle.std.proofs.Common.{rules, ap, sym, length, true≢false}
use Rattle.locked_replay.proofs.Agreeing.{monoids_more, monoid_here}
use Rattle.locked_replay.proofs.same.are_same_monoids.Goals as goal

pub returns-then-one-other : goal.returns-then-one-other
returns-then-one-other c = (λ t. absurd (true≢false (sym t)), λ same. absurd (c.if-one-other.true (ap length same)))

pub loop-at-preserved : goal.loop-at-preserved
loop-at-preserved c = monoids_more _ _ c.loop-at.at _ _ (search rules) (search rules) c.loop-at.invariant (c.is_same_monoid.ensures.0 (search rules))

pub returns-then-not-is_same_monoid : goal.returns-then-not-is_same_monoid
returns-then-not-is_same_monoid c =
    (λ t. absurd (true≢false (sym t)), λ same. let here = c.is_same_monoid.ensures.1 (monoid_here _ _ c.loop-at.at _ _ (search rules) same) in search rules)
