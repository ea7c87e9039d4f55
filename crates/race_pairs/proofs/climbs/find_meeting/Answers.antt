use Rattle.std.proofs.Common.{inl, inr, ◌<◌, ◌∙◌, length, arith}
use Rattle.race_pairs.proofs.Places.{no_strand, no_frame}
use Rattle.race_pairs.proofs.KnownMakers.{apart_by, alike_by}
use Rattle.race_pairs.proofs.Jumping.{climbs_level, climbs_above}
use Rattle.race_pairs.proofs.Raised.{no_jump}
use Rattle.race_pairs.proofs.climbs.find_meeting.Goals as goal

pub rise_to-one-requires : goal.rise_to-one-requires
rise_to-one-requires c =
    let ways = c.requires.1 in
    let it = ways.1.each c.args.strand no_jump (omega (arith, c.requires.2, ways.0.len, ways.1.len)) in
    (c.requires.0, (ways, c.requires.2, omega (arith, it.depth, c.lesser-depth.ensures.one)))

pub rise_to-two-requires : goal.rise_to-two-requires
rise_to-two-requires c =
    let ways = c.requires.1 in
    let it = ways.1.each c.args.other no_jump (omega (arith, c.requires.3, ways.0.len, ways.1.len)) in
    (c.requires.0, (ways, c.requires.3, omega (arith, it.depth, c.lesser-depth.ensures.other)))

pub climb-init : goal.climb-init
climb-init c = λ entries ways.
    let strand = ways.1.each c.args.strand no_jump (omega (arith, c.requires.2, ways.0.len, ways.1.len)) in
    let other = ways.1.each c.args.other no_jump (omega (arith, c.requires.3, ways.0.len, ways.1.len)) in
    let one = c.rise_to-one.ensures entries (ways, c.requires.2, omega (arith, strand.depth, c.lesser-depth.ensures.one)) in
    let two = c.rise_to-two.ensures entries (ways, c.requires.3, omega (arith, other.depth, c.lesser-depth.ensures.other)) in (
      climbs_level entries c.args.strand c.args.other c.rise_to-one.result c.rise_to-two.result c.lesser-depth.result one two
          (elim c.lesser-depth.ensures.is [ inl e ↦ inl (e ∙ strand.depth) | inr e ↦ inr (e ∙ other.depth) ]),
      omega (arith, one.1, two.1),
    )

pub bounds-strands-one : goal.bounds-strands-one
bounds-strands-one c =
    let ways = c.requires.1 in
    let now = c.climb.invariant c.requires.0 ways in
    omega (arith, now.0.one_known, ways.0.len)

pub bounds-strands-two : goal.bounds-strands-two
bounds-strands-two c =
    let ways = c.requires.1 in
    let now = c.climb.invariant c.requires.0 ways in
    omega (arith, now.0.two_known, ways.0.len)

pub step_both-left-requires : goal.step_both-left-requires
step_both-left-requires c =
    let ways = c.requires.1 in
    let now = c.climb.invariant c.requires.0 ways in (
      c.requires.0,
      apart_by c.args.opened.now c.args.strands.now c.args.jumps.now c.requires.0 ways c.climb.one c.climb.two now.0.one_known now.0.two_known now.1
          no_strand no_frame c.climb-test.true,
    )

pub climb-smaller : goal.climb-smaller
climb-smaller c =
    let ways = c.requires.1 in
    let now = c.climb.invariant c.requires.0 ways in
    let up = c.step_both-left.ensures c.requires.0 (apart_by c.args.opened.now c.args.strands.now c.args.jumps.now c.requires.0 ways c.climb.one c.climb.two
    now.0.one_known now.0.two_known now.1 no_strand no_frame c.climb-test.true) in
    let it = ways.1.each c.climb.one no_jump (omega (arith, now.0.one_known, ways.1.len)) in
    let over = ways.1.each c.step_both-left.result.0 no_jump (omega (arith, up.left_up.0, ways.1.len)) in
    omega (arith, it.depth, over.depth, up.further)

pub climb-preserved : goal.climb-preserved
climb-preserved c = λ entries ways.
    let now = c.climb.invariant entries ways in
    let up = c.step_both-left.ensures entries (apart_by c.args.opened.now c.args.strands.now c.args.jumps.now entries ways c.climb.one c.climb.two
    now.0.one_known now.0.two_known now.1 no_strand no_frame c.climb-test.true) in
    (climbs_above entries c.args.strand c.args.other c.climb.one c.climb.two c.step_both-left.result.0 c.step_both-left.result.1 now.0 up, up.level)

pub maker_of-requires : goal.maker_of-requires
maker_of-requires c =
    let ways = c.requires.1 in
    let now = c.climb.invariant c.requires.0 ways in
    let known : c.climb.one < length c.args.strands.now = omega (arith, now.0.one_known, ways.0.len) in
    (c.requires.0, ways.0, known, known)

pub returns-clause-climbs : goal.returns-clause-climbs
returns-clause-climbs c = λ entries ways. (c.climb.invariant entries ways).0

pub returns-clause-one : goal.returns-clause-one
returns-clause-one c = λ entries ways. c.maker_of.ensures entries ways.0

pub returns-clause-two : goal.returns-clause-two
returns-clause-two c = λ entries ways.
    let now = c.climb.invariant entries ways in
    c.maker_of.ensures entries ways.0 ∙ alike_by c.args.opened.now c.args.strands.now c.args.jumps.now entries ways c.climb.one c.climb.two now.0.one_known
    now.0.two_known no_strand c.climb-test.false
