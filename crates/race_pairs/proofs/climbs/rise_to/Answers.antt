use Rattle.std.proofs.Common.{arith}
use Rattle.race_pairs.proofs.Jumping.{up_self, up_further}
use Rattle.race_pairs.proofs.Raised.{no_jump}
use Rattle.race_pairs.proofs.climbs.rise_to.Goals as goal

pub rise-init : goal.rise-init
rise-init c = λ entries risen. (up_self entries c.args.strand (omega (arith, risen.1, risen.0.0.len)), risen.2)

pub bounds-jumps-here : goal.bounds-jumps-here
bounds-jumps-here c =
    let now = c.rise.invariant c.requires.0 c.requires.1 in
    omega (arith, now.0.0, c.requires.1.0.1.len)

pub step_up-here-requires : goal.step_up-here-requires
step_up-here-requires c =
    let ways = c.requires.1.0 in
    let now = c.rise.invariant c.requires.0 c.requires.1 in
    let it = ways.1.each c.rise.here no_jump (omega (arith, now.0.0, ways.1.len)) in
    (c.requires.0, (ways, omega (arith, now.0.0, ways.0.len), omega (arith, it.depth, c.rise-test.true)))

pub rise-smaller : goal.rise-smaller
rise-smaller c =
    let ways = c.requires.1.0 in
    let now = c.rise.invariant c.requires.0 c.requires.1 in
    let it = ways.1.each c.rise.here no_jump (omega (arith, now.0.0, ways.1.len)) in
    let up = c.step_up-here.ensures c.requires.0 (ways, omega (arith, now.0.0, ways.0.len), omega (arith, it.depth, c.rise-test.true)) in
    let over = ways.1.each c.step_up-here.result no_jump (omega (arith, up.up.0, ways.1.len)) in
    omega (arith, it.depth, over.depth, up.further)

pub rise-preserved : goal.rise-preserved
rise-preserved c = λ entries risen.
    let ways = risen.0 in
    let now = c.rise.invariant entries risen in
    let it = ways.1.each c.rise.here no_jump (omega (arith, now.0.0, ways.1.len)) in
    let up = c.step_up-here.ensures entries (ways, omega (arith, now.0.0, ways.0.len), omega (arith, it.depth, c.rise-test.true)) in
    (up_further entries c.step_up-here.result c.rise.here c.args.strand up.up now.0, up.within)

pub returns : goal.returns
returns c = λ entries risen.
    let ways = risen.0 in
    let now = c.rise.invariant entries risen in
    let it = ways.1.each c.rise.here no_jump (omega (arith, now.0.0, ways.1.len)) in
    (now.0, omega (arith, now.1, it.depth, c.rise-test.false))
