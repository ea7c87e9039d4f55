use Rattle.std.proofs.Common.{arith}
use Rattle.race_pairs.proofs.Places.{no_strand, no_frame}
use Rattle.race_pairs.proofs.KnownMakers.{known_made, place_some, number_is, known_spawn, known_some}
use Rattle.race_pairs.proofs.climbs.spawn_of.Goals as goal

pub overflow_sub-opener : goal.overflow_sub-opener
overflow_sub-opener c =
    let some = place_some c.args.opened.now _ _ (known_made c.args.opened.now c.args.strands.now c.requires.0 c.requires.1 c.args.strand c.requires.2 no_strand)
    c.requires.3 in
    omega (arith, some)

pub bounds-opened-maker : goal.bounds-opened-maker
bounds-opened-maker c =
    let made = known_made c.args.opened.now c.args.strands.now c.requires.0 c.requires.1 c.args.strand c.requires.2 no_strand in
    (number_is c.args.opened.now _ _ made (place_some c.args.opened.now _ _ made c.requires.3) no_frame).0

pub unreachable-requires : goal.unreachable-requires
unreachable-requires c =
    known_some c.args.opened.now c.args.strands.now c.requires.0 c.requires.1 c.args.strand c.requires.2 c.requires.3 no_strand no_frame c.in-None.is

pub returns : goal.returns
returns c = λ entries made.
    known_spawn c.args.opened.now c.args.strands.now entries made c.args.strand c.requires.2 no_strand no_frame
    (place_some c.args.opened.now _ _ (known_made c.args.opened.now c.args.strands.now c.requires.0 c.requires.1 c.args.strand c.requires.2 no_strand) c.requires.3)
    c.in-Some.spawned c.in-Some.is
