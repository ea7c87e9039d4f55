use Rattle.std.proofs.Common.{inl, inr, sym, ◌∙◌, subst, arith}
use Rattle.law_addresses.specs.Address.{IsPrefix}
use Rattle.model_strands.specs.Addresses.{address}
use Rattle.model_histories.specs.Entries.{control_part}
use Rattle.race_pairs.specs.Makers.{IsSpawn}
use Rattle.race_pairs.proofs.KnownMakers.{begun_within}
use Rattle.race_pairs.proofs.Outstanding.{some_maker, outstanding_told, swapped}
use Rattle.race_pairs.proofs.partings.find_outstanding.Goals as goal
use Rattle.race_pairs.proofs.partings.find_outstanding.Goals.{then-two-spawned, else-two-spawned}

pub find_meeting-one-requires : goal.find_meeting-one-requires
find_meeting-one-requires c = (
  c.requires.0,
  c.requires.1.0,
  begun_within c.args.opened.now c.args.strands.now c.requires.0 c.requires.1.0.0 c.args.first c.requires.1.1,
  begun_within c.args.opened.now c.args.strands.now c.requires.0 c.requires.1.0.0 c.args.second c.requires.1.2,
)

pub spawn_of-spawner-requires : goal.spawn_of-spawner-requires
spawn_of-spawner-requires c =
    let ways = c.requires.1.0 in
    let made = ways.0 in
    let climbs = c.find_meeting-one.ensures.climbs c.requires.0 ways in
    let at_one = c.find_meeting-one.ensures.one c.requires.0 ways in
    let at_two = c.find_meeting-one.ensures.two c.requires.0 ways in (
      c.requires.0,
      made,
      omega (arith, made.len, climbs.one_known),
      some_maker c.requires.0 made.legal c.args.first c.args.second _ _ climbs (sym at_one ∙ at_two) c.if-one-two.false,
    )

pub returns-then-two-second : goal.returns-then-two-second
returns-then-two-second c = λ entries known.
    let climbs = c.find_meeting-one.ensures.climbs entries known.0 in
    let here = c.if-one-two.true ∙ c.if-two-second.true in
    swapped entries c.args.first c.args.second _ (c.open_behind-then-two-second.ensures entries known.0.0
    (known.2, known.1, subst (λ x. IsPrefix (address (control_part entries) x) (address (control_part entries) c.args.first)) here climbs.one_begins))

pub returns : goal.returns
returns c = λ entries known.
    let climbs = c.find_meeting-one.ensures.climbs entries known.0 in
    let at_one = c.find_meeting-one.ensures.one entries known.0 in
    let at_two = c.find_meeting-one.ensures.two entries known.0 in
    outstanding_told entries known.0.0.legal c.args.first c.args.second c.find_meeting-one.result.0 c.find_meeting-one.result.1 climbs known.1 known.2
    (sym at_one ∙ at_two) c.if-one-two.false c.find_meeting-one.result.2 at_one c.spawn_of-spawner.result.0 c.spawn_of-spawner.result.1
    (subst (λ n. IsSpawn entries n c.spawn_of-spawner.result.0 c.spawn_of-spawner.result.1) (sym at_one) (c.spawn_of-spawner.ensures entries known.0.0))
    c.if-two-spawned.side (elim c.if-two-spawned.branch [ then-two-spawned w ↦ inl w.side-is | else-two-spawned w ↦ inr w.side-is ])
    c.opposite.result c.opposite.ensures c.in_ok-peer.peer c.in_ok-peer.was
