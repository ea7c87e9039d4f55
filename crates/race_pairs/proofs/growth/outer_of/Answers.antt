use Rattle.race_pairs.proofs.Places.{no_frame, outward, behind_is, behind_none}
use Rattle.race_pairs.proofs.growth.outer_of.Goals as goal

pub returns-then-place-eq0 : goal.returns-then-place-eq0
returns-then-place-eq0 c = λ numbers encloses. behind_none c.args.opened.now c.args.place numbers encloses c.if-place-eq0.true

pub bounds-opened-place : goal.bounds-opened-place
bounds-opened-place c = (outward c.args.opened.now c.args.place c.requires.0 c.requires.1 c.if-place-eq0.false no_frame).within

pub returns-else-place-eq0 : goal.returns-else-place-eq0
returns-else-place-eq0 c = λ numbers encloses. behind_is c.args.opened.now c.args.place numbers encloses c.if-place-eq0.false no_frame
