use Rattle.std.proofs.Common.{inl, inr}
use Rattle.std.proofs.lemmas.Bool.{both_ways}
use Rattle.shadow_history.proofs.Witnesses.{none-parallel, latest-english, latest-hebrew}
use Rattle.shadow_history.proofs.cell.Extremes.parallel_to.Goals as goal

pub returns-then-english_before : goal.returns-then-english_before
returns-then-english_before g c history accesses location kind follows begun are =
    latest-english history accesses location kind c.args.strand c.args.self follows.legal (c.requires.runs history follows) begun are
    (inl ((c.english_before.ensures history follows).0 c.if-english_before.true))

pub returns-then-not-hebrew_before : goal.returns-then-not-hebrew_before
returns-then-not-hebrew_before g c history accesses location kind follows begun are =
    none-parallel history accesses location kind c.args.strand c.args.self follows.legal (c.requires.runs history follows) begun are
    (λ h. both_ways _ c.if-english_before.false ((c.english_before.ensures history follows).1 h))
    (λ h. both_ways _ c.if-not-hebrew_before.true ((c.hebrew_before.ensures history follows).1 h))

pub returns-then-hebrew_before : goal.returns-then-hebrew_before
returns-then-hebrew_before g c history accesses location kind follows begun are =
    latest-english history accesses location kind c.args.strand c.args.self follows.legal (c.requires.runs history follows) begun are
    (inr ((c.hebrew_before-2.ensures history follows).0 c.if-hebrew_before.true))

pub returns-else-hebrew_before : goal.returns-else-hebrew_before
returns-else-hebrew_before g c history accesses location kind follows begun are =
    latest-hebrew history accesses location kind c.args.strand c.args.self follows.legal (c.requires.runs history follows) begun are
    (λ h. both_ways _ c.if-english_before.false ((c.english_before.ensures history follows).1 h))
    (λ h. both_ways _ c.if-hebrew_before.false ((c.hebrew_before-2.ensures history follows).1 h))
    ((c.hebrew_before.ensures history follows).0 c.if-not-hebrew_before.false)
