use Rattle.std.proofs.Common.{reverse}
use Rattle.race_pairs.proofs.SpawnLines.{part_nowhere, part_there}
use Rattle.race_pairs.proofs.races.line_between.Goals as goal

pub parting-requires : goal.parting-requires
parting-requires c = (reverse c.requires.0, c.requires.1.0)

pub returns-in-Some : goal.returns-in-Some
returns-in-Some c = λ told are.
    part_there told c.args.lines.now c.args.strand c.args.other c.parting.result c.in-Some.parting c.in-Some.is (c.parting.ensures.parts (reverse told) are.0) are.1
    c.line_in.result c.line_in.ensures

pub returns-in-None : goal.returns-in-None
returns-in-None c = λ told are.
    part_nowhere told c.args.strand c.args.other c.parting.result c.in-None.is (c.parting.ensures.found (reverse told) are.0)
