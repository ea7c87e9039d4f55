use Rattle.std.proofs.Common.{subst}
use Rattle.std.proofs.lemmas.Result.{on_ok_weaker}
use Rattle.race_pairs.specs.Groups.{IsOfSpawn}
use Rattle.race_pairs.proofs.Grouped.{none_begun}
use Rattle.race_pairs.proofs.groups.add_race.Goals as goal

pub returns-in-Some : goal.returns-in-Some
returns-in-Some c =
    on_ok_weaker c.add_at_line.result (λ adds races found a of. adds races found a (subst (λ spawn. IsOfSpawn races spawn c.args.place) c.in-Some.is of))
    c.add_at_line.ensures

pub returns-in-None : goal.returns-in-None
returns-in-None c =
    on_ok_weaker c.begin_group.result (λ more races found a of. none_begun c.args.known.now c.args.groups.now.items _ c.args.place found more races a
    (subst (λ spawn. IsOfSpawn races spawn c.args.place) c.in-None.is of)) c.begin_group.ensures
