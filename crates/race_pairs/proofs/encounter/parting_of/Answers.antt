use Rattle.std.proofs.Common.{reverse}
use Rattle.race_pairs.proofs.Encountered.{begun_both, part_some}
use Rattle.race_pairs.proofs.encounter.parting_of.Goals as goal

pub parting-requires : goal.parting-requires
parting-requires c =
    (reverse c.requires.0, begun_both c.requires.0 c.args.digest.now c.args.race.now c.in_ok-witness.witness c.requires.1 c.in_ok-witness.was)

pub returns : goal.returns
returns c = λ told is.
    let side = c.in_ok-witness.witness in
    let begun = begun_both told c.args.digest.now c.args.race.now side is c.in_ok-witness.was in
    part_some told c.args.race.now side c.parting.result is.1 c.in_ok-witness.was
    (c.parting.ensures.parts (reverse told) begun) (c.parting.ensures.found (reverse told) begun)
