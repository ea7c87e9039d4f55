use Rattle.std.proofs.Common.{◌++◌, refl, arith}
use Rattle.race_pairs.proofs.Places.{no_strand, no_turn}
use Rattle.race_pairs.proofs.Stood.{strand_stood, sought_of, reached_first, reached_turn, reached_back, reached_place, reached_begin, reached_none}
use Rattle.race_pairs.proofs.frames.place_before.Goals as goal

pub returns-then-strand-strands : goal.returns-then-strand-strands
returns-then-strand-strands c = λ later earlier kept number.
    reached_none c.args.opened.now c.args.turns.now c.args.strands.now c.args.strand c.if-strand-strands.true later earlier kept

pub back-init : goal.back-init
back-init c = λ entries kept.
    reached_first c.args.opened.now c.args.turns.now c.args.strands.now entries kept c.args.strand c.if-strand-strands.false no_strand c.args.number

pub bounds-turns-at : goal.bounds-turns-at
bounds-turns-at c =
    (reached_turn c.args.opened.now c.args.turns.now c.requires.0 (sought_of c.args.strand c.args.number c.args.strands.now)
    c.back.at (c.back.invariant c.requires.0 c.requires.1) c.back-test.true no_turn).0

pub returns-then-turn-number : goal.returns-then-turn-number
returns-then-turn-number c = λ later earlier kept number.
    reached_place c.args.opened.now c.args.turns.now (later ++ earlier) (sought_of c.args.strand c.args.number c.args.strands.now)
    c.back.at (c.back.invariant (later ++ earlier) kept) c.back-test.true no_turn
    c.if-turn-number.true later earlier refl number

pub back-smaller : goal.back-smaller
back-smaller c =
    (reached_turn c.args.opened.now c.args.turns.now c.requires.0 (sought_of c.args.strand c.args.number c.args.strands.now)
    c.back.at (c.back.invariant c.requires.0 c.requires.1) c.back-test.true no_turn).1

pub back-preserved : goal.back-preserved
back-preserved c = λ entries kept.
    reached_back c.args.opened.now c.args.turns.now entries (sought_of c.args.strand c.args.number c.args.strands.now)
    c.back.at (c.back.invariant entries kept) c.back-test.true no_turn c.if-turn-number.false

pub place_first-requires : goal.place_first-requires
place_first-requires c =
    let stood = strand_stood c.args.opened.now c.args.turns.now c.args.strands.now c.requires.0 c.requires.1 c.args.strand c.if-strand-strands.false no_strand in
    (stood.first, stood.begins)

pub returns : goal.returns
returns c = λ later earlier kept number.
    reached_begin c.args.opened.now c.args.turns.now (later ++ earlier) (sought_of c.args.strand c.args.number c.args.strands.now)
    c.back.at (c.back.invariant (later ++ earlier) kept) (omega (arith, c.back-test.false))
    c.place_first.result c.place_first.ensures.begun c.place_first.ensures.none later earlier refl number
