use Rattle.std.proofs.Common.{sym}
use Rattle.race_pairs.proofs.Places.{no_strand, no_frame}
use Rattle.race_pairs.proofs.KnownMakers.{known_made, none_made, number_is}
use Rattle.race_pairs.proofs.climbs.maker_of.Goals as goal

pub returns-then-maker-eq0 : goal.returns-then-maker-eq0
returns-then-maker-eq0 c = λ entries made.
    sym (none_made c.args.opened.now _ _ (known_made c.args.opened.now c.args.strands.now entries made c.args.strand c.requires.2 no_strand) c.if-maker-eq0.true)

pub bounds-opened-maker : goal.bounds-opened-maker
bounds-opened-maker c =
    (number_is c.args.opened.now _ _ (known_made c.args.opened.now c.args.strands.now c.requires.0 c.requires.1 c.args.strand c.requires.2 no_strand)
    c.if-maker-eq0.false no_frame).0

pub returns : goal.returns
returns c = λ entries made.
    (number_is c.args.opened.now _ _ (known_made c.args.opened.now c.args.strands.now entries made c.args.strand c.requires.2 no_strand)
    c.if-maker-eq0.false no_frame).1
