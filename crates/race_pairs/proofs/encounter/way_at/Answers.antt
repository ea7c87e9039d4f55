use Rattle.std.proofs.Common.{None, Some, reverse, ◌∙◌}
use Rattle.race_pairs.proofs.Linked.{way_is}
use Rattle.race_pairs.proofs.encounter.way_at.Goals as goal

pub returns-in-Some : goal.returns-in-Some
returns-in-Some c = λ told is.
    c.way_of.ensures ∙ way_is told is.1 c.args.number (Some c.in-Some.opener) (c.in-Some.ensures (reverse told) is.0)

pub returns-in-None : goal.returns-in-None
returns-in-None c = λ told is. way_is told is.1 c.args.number None (c.in-None.ensures (reverse told) is.0)
