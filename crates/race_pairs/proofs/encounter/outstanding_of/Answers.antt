use Rattle.std.proofs.Common.{reverse}
use Rattle.race_pairs.proofs.Encountered.{begun_both, open_some}
use Rattle.race_pairs.proofs.encounter.outstanding_of.Goals as goal

pub outstanding-requires : goal.outstanding-requires
outstanding-requires c =
    let begun = begun_both c.requires.0 c.args.digest.now c.args.race.now c.in_ok-witness-in-ViewRead.witness c.requires.1 c.in_ok-witness-in-ViewRead.was in
    (reverse c.requires.0, (begun.0, begun.2, begun.1))

pub returns-in_ok-witness-in-ViewRead : goal.returns-in_ok-witness-in-ViewRead
returns-in_ok-witness-in-ViewRead c = λ told is.
    let side = c.in_ok-witness-in-ViewRead.witness in
    let begun = begun_both told c.args.digest.now c.args.race.now side is c.in_ok-witness-in-ViewRead.was in
    open_some told c.args.race.now side c.outstanding.result is.1 c.in-ViewRead.is c.in_ok-witness-in-ViewRead.was
    (c.outstanding.ensures (reverse told) (begun.0, begun.2, begun.1))
