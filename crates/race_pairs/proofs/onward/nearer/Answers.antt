use Rattle.std.proofs.Common.{subst}
use Rattle.race_pairs.specs.Onward.{IsLeast}
use Rattle.race_pairs.proofs.Nearer.{least_nearer}
use Rattle.race_pairs.proofs.onward.nearer.Goals as goal

pub returns-in-Some : goal.returns-in-Some
returns-in-Some c = λ numbers h.
    least_nearer c.args.spawn c.in-Some.other c.args.number c.min.result c.if-number-spawn.false c.min.ensures numbers
    (subst (IsLeast c.args.spawn numbers) c.in-Some.is h)
