use Rattle.std.proofs.Common.{sym, ap, ◌∙◌}
use Rattle.steal_workers.specs.Collecting.{settled}
use Rattle.steal_workers.proofs.joining.Collection.settle.Goals as goal

pub join_all-requires : goal.join_all-requires
join_all-requires g c = c.requires c.in_default.is

pub returns : goal.returns
returns g c = c.finished_logs.ensures ∙ ap (λ fault. settled fault c.args.self.logs) (sym c.in_default.is)

pub returns-in-Some : goal.returns-in-Some
returns-in-Some g c = ap (λ fault. settled fault c.args.self.logs) (sym c.in-Some.is)
