use Rattle.race_pairs.proofs.Places.{no_turn}
use Rattle.race_pairs.proofs.Stood.{strand_stood, now_first, now_turn}
use Rattle.race_pairs.proofs.frames.place_now.Goals as goal

pub first_place-requires : goal.first_place-requires
first_place-requires c =
    let stood = strand_stood c.args.opened.now c.args.turns.now c.args.strands.now c.requires.kept.0 c.requires.kept.1 c.args.strand c.requires.strand _ in
    (stood.first, stood.begins)

pub returns-then-it-eq0 : goal.returns-then-it-eq0
returns-then-it-eq0 c = λ entries kept.
    now_first c.args.opened.now c.args.turns.now c.args.strands.now entries kept c.args.strand c.requires.strand _ c.if-it-eq0.true _ c.first_place.ensures

pub bounds-turns-it : goal.bounds-turns-it
bounds-turns-it c =
    (now_turn c.args.opened.now c.args.turns.now c.args.strands.now c.requires.kept.0 c.requires.kept.1 c.args.strand c.requires.strand _ no_turn
    c.if-it-eq0.false).0

pub returns : goal.returns
returns c = λ entries kept.
    (now_turn c.args.opened.now c.args.turns.now c.args.strands.now entries kept c.args.strand c.requires.strand _ no_turn c.if-it-eq0.false).1
