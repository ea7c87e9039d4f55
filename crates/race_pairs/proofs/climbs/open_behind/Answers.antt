use Rattle.std.proofs.Common.{◌<◌, length, arith}
use Rattle.race_pairs.proofs.KnownMakers.{begun_within}
use Rattle.race_pairs.proofs.Outstanding.{way_first, way_back, way_outstanding}
use Rattle.race_pairs.proofs.climbs.open_behind.Goals as goal

pub maker_of-start-requires : goal.maker_of-start-requires
maker_of-start-requires c =
    let known = begun_within c.args.opened.now c.args.strands.now c.requires.0 c.requires.1 c.args.earlier c.requires.2.0 in
    (c.requires.0, c.requires.1, known, known)

pub maker_of-made-requires : goal.maker_of-made-requires
maker_of-made-requires c =
    let known = begun_within c.args.opened.now c.args.strands.now c.requires.0 c.requires.1 c.args.strand c.requires.2.1 in
    (c.requires.0, c.requires.1, known, known)

pub climb-init : goal.climb-init
climb-init c = λ entries made way.
    (way_first entries made.legal c.args.earlier c.args.strand way.1 way.2, c.maker_of-made.ensures entries made, c.maker_of-start.ensures entries made)

pub spawn_of-spawner-requires : goal.spawn_of-spawner-requires
spawn_of-spawner-requires c =
    let now = c.climb.invariant c.requires.0 c.requires.1 c.requires.2 in
    (c.requires.0, c.requires.1, omega (arith, c.requires.1.len, now.0.known), omega (arith, now.1, c.climb-test.true))

pub returns-in-Some : goal.returns-in-Some
returns-in-Some c = λ entries made way.
    let now = c.climb.invariant entries made way in
    way_outstanding entries made.legal c.args.earlier c.args.strand c.climb.here now.0 way.0 way.1
    (omega (arith, now.1, now.2, c.climb-test.true)) c.climb.made now.1 _ _ (c.spawn_of-spawner.ensures entries made) c.in-Some.peer c.in-Some.ensures

pub maker_of-made-requires-in-climb : goal.maker_of-made-requires-in-climb
maker_of-made-requires-in-climb c =
    let now = c.climb.invariant c.requires.0 c.requires.1 c.requires.2 in
    let up = way_back c.requires.0 c.requires.1.legal c.args.earlier c.args.strand c.climb.here now.0 c.requires.2.0
    (omega (arith, now.1, now.2, c.climb-test.true)) _ _ (c.spawn_of-spawner.ensures c.requires.0 c.requires.1) in
    let known : c.spawn_of-spawner.result.0 < length c.args.strands.now = omega (arith, c.requires.1.len, up.0.known) in
    (c.requires.0, c.requires.1, known, known)

pub climb-smaller : goal.climb-smaller
climb-smaller c =
    let now = c.climb.invariant c.requires.0 c.requires.1 c.requires.2 in
    let up = way_back c.requires.0 c.requires.1.legal c.args.earlier c.args.strand c.climb.here now.0 c.requires.2.0
    (omega (arith, now.1, now.2, c.climb-test.true)) _ _ (c.spawn_of-spawner.ensures c.requires.0 c.requires.1) in
    let is = c.maker_of-made-in-climb.ensures c.requires.0 c.requires.1 in
    omega (arith, now.1, is, up.1)

pub climb-preserved : goal.climb-preserved
climb-preserved c = λ entries made way.
    let now = c.climb.invariant entries made way in
    let up = way_back entries made.legal c.args.earlier c.args.strand c.climb.here now.0 way.0
    (omega (arith, now.1, now.2, c.climb-test.true)) _ _ (c.spawn_of-spawner.ensures entries made) in
    (up.0, c.maker_of-made-in-climb.ensures entries made, now.2)
