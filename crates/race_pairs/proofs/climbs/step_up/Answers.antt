use Rattle.std.proofs.Common.{arith}
use Rattle.race_pairs.proofs.Jumping.{made_below, further_by_jump, further_by_spawn}
use Rattle.race_pairs.proofs.Raised.{no_jump}
use Rattle.race_pairs.proofs.climbs.step_up.Goals as goal

pub returns-then-above-depth : goal.returns-then-above-depth
returns-then-above-depth c = λ entries below.
    further_by_jump c.args.jumps.now entries below.0.1 c.args.strand c.args.depth no_jump (omega (arith, below.1, below.0.0.len, below.0.1.len)) below.2
    c.if-above-depth.true

pub spawn_of-spawner-requires : goal.spawn_of-spawner-requires
spawn_of-spawner-requires c =
    let below = c.requires.1 in
    let made = below.0.0 in (
      c.requires.0,
      made,
      below.1,
      made_below c.requires.0 made.legal c.args.strand (omega (arith, below.1, made.len)) (omega (arith, below.2)),
    )

pub returns : goal.returns
returns c = λ entries below.
    let made = below.0.0 in
    further_by_spawn entries made.legal c.args.strand c.args.depth (omega (arith, below.1, made.len)) below.2
    c.spawn_of-spawner.result.0 c.spawn_of-spawner.result.1 (c.spawn_of-spawner.ensures entries made)
