use Rattle.std.proofs.Common.{arith}
use Rattle.race_pairs.proofs.Jumping.{below_root, made_below, above_by_jumps, above_by_spawns}
use Rattle.race_pairs.proofs.Raised.{no_jump}
use Rattle.race_pairs.proofs.climbs.step_both.Goals as goal

pub returns-then-height-jumps : goal.returns-then-height-jumps
returns-then-height-jumps c = λ entries apart.
    let ways = apart.0 in
    above_by_jumps c.args.jumps.now entries ways.0.legal ways.1 c.args.one c.args.two no_jump (omega (arith, apart.1, ways.0.len, ways.1.len))
    (omega (arith, apart.2, ways.0.len, ways.1.len)) apart.3 apart.4 c.if-left-right.true c.if-height-jumps.true

pub spawn_of-spawner-requires : goal.spawn_of-spawner-requires
spawn_of-spawner-requires c =
    let apart = c.requires.1 in
    let made = apart.0.0 in
    let deep = below_root c.requires.0 made.legal c.args.one c.args.two (omega (arith, apart.1, made.len)) (omega (arith, apart.2, made.len)) apart.3 apart.4 in
    (c.requires.0, made, apart.1, made_below c.requires.0 made.legal c.args.one (omega (arith, apart.1, made.len)) deep)

pub spawn_of-other-requires : goal.spawn_of-other-requires
spawn_of-other-requires c =
    let apart = c.requires.1 in
    let made = apart.0.0 in
    let deep = below_root c.requires.0 made.legal c.args.one c.args.two (omega (arith, apart.1, made.len)) (omega (arith, apart.2, made.len)) apart.3 apart.4 in
    (c.requires.0, made, apart.2, made_below c.requires.0 made.legal c.args.two (omega (arith, apart.2, made.len)) (omega (arith, deep, apart.3)))

pub returns : goal.returns
returns c = λ entries apart.
    let made = apart.0.0 in
    above_by_spawns entries made.legal c.args.one c.args.two (omega (arith, apart.1, made.len)) (omega (arith, apart.2, made.len)) apart.3 apart.4
    c.spawn_of-spawner.result.0 c.spawn_of-other.result.0 c.spawn_of-spawner.result.1 c.spawn_of-other.result.1
    (c.spawn_of-spawner.ensures entries made) (c.spawn_of-other.ensures entries made)
