use Rattle.std.proofs.Common.{inl, inr, refl, sym, ◌∙◌, subst, arith}
use Rattle.race_pairs.specs.Makers.{IsSpawn}
use Rattle.race_pairs.proofs.KnownMakers.{begun_within}
use Rattle.race_pairs.proofs.Parted.{root_told, beside_told, sided, sided_turned, told_parallel}
use Rattle.race_pairs.proofs.partings.find_parting.Goals as goal
use Rattle.race_pairs.proofs.partings.find_parting.Goals.{else-one-spawned-via-then-one-spawned+else-two-spawned, else-one-spawned-via-else-one-spawned, else-two-spawned-2-via-then-two-spawned-2+else-one-spawned-2, else-two-spawned-2-via-else-two-spawned-2}

pub find_meeting-one-requires : goal.find_meeting-one-requires
find_meeting-one-requires c = (
  c.requires.0,
  c.requires.1.0,
  begun_within c.args.opened.now c.args.strands.now c.requires.0 c.requires.1.0.0 c.args.strand c.requires.1.1,
  begun_within c.args.opened.now c.args.strands.now c.requires.0 c.requires.1.0.0 c.args.other c.requires.1.2,
)

pub returns-then-entry-eq0-clause-found : goal.returns-then-entry-eq0-clause-found
returns-then-entry-eq0-clause-found c = λ entries known.
    let at_one = c.find_meeting-one.ensures.one entries known.0 in
    let at_two = c.find_meeting-one.ensures.two entries known.0 in
    root_told entries known.0.0.legal c.args.strand c.args.other c.find_meeting-one.result.0 c.find_meeting-one.result.1 (c.find_meeting-one.ensures.climbs entries known.0)
    known.1 known.2 (sym at_one ∙ at_two) (sym at_one ∙ c.if-entry-eq0.true)

pub spawn_of-spawner-requires : goal.spawn_of-spawner-requires
spawn_of-spawner-requires c =
    let climbs = c.find_meeting-one.ensures.climbs c.requires.0 c.requires.1.0 in (
      c.requires.0,
      c.requires.1.0.0,
      omega (arith, c.requires.1.0.0.len, climbs.one_known),
      omega (arith, c.find_meeting-one.ensures.one c.requires.0 c.requires.1.0, c.if-entry-eq0.false),
    )

pub returns-else-two-spawned-2-clause-found : goal.returns-else-two-spawned-2-clause-found
returns-else-two-spawned-2-clause-found c = λ entries known.
    let at_one = c.find_meeting-one.ensures.one entries known.0 in
    let at_two = c.find_meeting-one.ensures.two entries known.0 in
    beside_told entries known.0.0.legal c.args.strand c.args.other c.find_meeting-one.result.0 c.find_meeting-one.result.1 (c.find_meeting-one.ensures.climbs entries known.0)
    known.1 known.2 (sym at_one ∙ at_two) (omega (arith, at_one, c.if-entry-eq0.false)) c.spawn_of-spawner.result.0 c.spawn_of-spawner.result.1
    (c.spawn_of-spawner.ensures entries known.0.0)
    (λ p q. elim c.else-one-spawned.branch [
      | else-one-spawned-via-then-one-spawned+else-two-spawned w ↦ w.if-two-spawned.false q
      | else-one-spawned-via-else-one-spawned w ↦ w.if-one-spawned.false p
    ])
    (λ p q. elim c.else-two-spawned-2.branch [
      | else-two-spawned-2-via-then-two-spawned-2+else-one-spawned-2 w ↦ w.if-one-spawned-2.false q
      | else-two-spawned-2-via-else-two-spawned-2 w ↦ w.if-two-spawned-2.false p
    ])

pub returns-then-two-spawned-clause-parts : goal.returns-then-two-spawned-clause-parts
returns-then-two-spawned-clause-parts c = λ entries known.
    let at_one = c.find_meeting-one.ensures.one entries known.0 in
    let found = sided entries known.0.0.legal c.args.strand c.args.other c.find_meeting-one.result.0 c.find_meeting-one.result.1 (c.find_meeting-one.ensures.climbs entries known.0)
    known.1 known.2 (omega (arith, at_one, c.if-entry-eq0.false)) c.spawn_of-spawner.result.0 c.spawn_of-spawner.result.1
    (c.spawn_of-spawner.ensures entries known.0.0) c.if-one-spawned.true c.if-two-spawned.true in
    record {
      spawn = subst (λ n. IsSpawn entries n c.spawn_of-spawner.result.0 c.spawn_of-spawner.result.1) (sym at_one) (c.spawn_of-spawner.ensures entries known.0.0);
      sides = inl (refl, refl);
      child_reaches = found.0.child_reaches;
      next_reaches = found.0.next_reaches;
      child_misses = found.0.child_misses;
      next_misses = found.0.next_misses;
    }

pub returns-then-two-spawned-clause-found : goal.returns-then-two-spawned-clause-found
returns-then-two-spawned-clause-found c = λ entries known.
    let at_one = c.find_meeting-one.ensures.one entries known.0 in
    told_parallel entries c.args.strand c.args.other
    (sided entries known.0.0.legal c.args.strand c.args.other c.find_meeting-one.result.0 c.find_meeting-one.result.1 (c.find_meeting-one.ensures.climbs entries known.0)
    known.1 known.2 (omega (arith, at_one, c.if-entry-eq0.false)) c.spawn_of-spawner.result.0 c.spawn_of-spawner.result.1
    (c.spawn_of-spawner.ensures entries known.0.0) c.if-one-spawned.true c.if-two-spawned.true).1

pub returns-then-one-spawned-2-clause-parts : goal.returns-then-one-spawned-2-clause-parts
returns-then-one-spawned-2-clause-parts c = λ entries known.
    let at_one = c.find_meeting-one.ensures.one entries known.0 in
    let at_two = c.find_meeting-one.ensures.two entries known.0 in
    let found = sided_turned entries known.0.0.legal c.args.strand c.args.other c.find_meeting-one.result.0 c.find_meeting-one.result.1
    (c.find_meeting-one.ensures.climbs entries known.0) known.1 known.2 (sym at_one ∙ at_two) (omega (arith, at_one, c.if-entry-eq0.false))
    c.spawn_of-spawner.result.0 c.spawn_of-spawner.result.1 (c.spawn_of-spawner.ensures entries known.0.0) c.if-two-spawned-2.true c.if-one-spawned-2.true in
    record {
      spawn = subst (λ n. IsSpawn entries n c.spawn_of-spawner.result.0 c.spawn_of-spawner.result.1) (sym at_one) (c.spawn_of-spawner.ensures entries known.0.0);
      sides = inr (refl, refl);
      child_reaches = found.0.child_reaches;
      next_reaches = found.0.next_reaches;
      child_misses = found.0.child_misses;
      next_misses = found.0.next_misses;
    }

pub returns-then-one-spawned-2-clause-found : goal.returns-then-one-spawned-2-clause-found
returns-then-one-spawned-2-clause-found c = λ entries known.
    let at_one = c.find_meeting-one.ensures.one entries known.0 in
    let at_two = c.find_meeting-one.ensures.two entries known.0 in
    told_parallel entries c.args.strand c.args.other
    (sided_turned entries known.0.0.legal c.args.strand c.args.other c.find_meeting-one.result.0 c.find_meeting-one.result.1
    (c.find_meeting-one.ensures.climbs entries known.0) known.1 known.2 (sym at_one ∙ at_two) (omega (arith, at_one, c.if-entry-eq0.false))
    c.spawn_of-spawner.result.0 c.spawn_of-spawner.result.1 (c.spawn_of-spawner.ensures entries known.0.0) c.if-two-spawned-2.true c.if-one-spawned-2.true).1
