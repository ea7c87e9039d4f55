use Rattle.std.proofs.Common.{inr, arith}
use Rattle.race_pairs.proofs.races.begin_in.Goals as goal

pub returns : goal.returns
returns c =
    inr (omega (arith, c.len.ensures, c.if-len-most.false), c.in_ok-begin_race.field-0, c.in_ok-begin_race.ensures, c.in_ok-push.ensures.items)
