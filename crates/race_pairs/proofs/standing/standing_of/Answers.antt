use Rattle.std.proofs.Common.{◌≡◌, zero, refl, arith}
use Rattle.race_pairs.specs.declared.standing.Effect.TheVariants.{Begins, Ends, Reserves}
use Rattle.race_pairs.proofs.Numbers.{no_entry}
use Rattle.race_pairs.proofs.Statuses.{begins_back, ends_back, reserves_back, first_back, absent_back}
use Rattle.race_pairs.proofs.standing.standing_of.Goals as goal

pub returns-in-Begins : goal.returns-in-Begins
returns-in-Begins c =
    begins_back c.args.entries.now c.args.strand c.back.at no_entry Begins refl c.back-test.true c.back.invariant.1 c.in-Begins.ensures.status
    c.back.invariant.0

pub returns-in-Ends : goal.returns-in-Ends
returns-in-Ends c =
    ends_back c.args.entries.now c.args.strand c.back.at no_entry Ends c.requires.0 refl c.back-test.true c.back.invariant.1 c.in-Ends.ensures.status
    (c.in-Ends.ensures.ends refl) c.back.invariant.0 c.requires.1

pub returns-in-Reserves : goal.returns-in-Reserves
returns-in-Reserves c =
    reserves_back c.args.entries.now c.args.strand c.back.at no_entry Reserves refl c.back-test.true c.back.invariant.1 c.in-Reserves.ensures.status
    (c.in-Reserves.ensures.reserves refl) c.back.invariant.0

pub returns-then-strand-eq0 : goal.returns-then-strand-eq0
returns-then-strand-eq0 c =
    let none : c.back.at ≡ zero = omega (arith, c.back-test.false) in
    first_back c.args.entries.now c.args.strand c.back.at none c.if-strand-eq0.true c.back.invariant.0

pub returns-else-strand-eq0 : goal.returns-else-strand-eq0
returns-else-strand-eq0 c =
    let none : c.back.at ≡ zero = omega (arith, c.back-test.false) in
    absent_back c.args.entries.now c.args.strand c.back.at none c.if-strand-eq0.false c.back.invariant.0
