-- A function is spawned.
use Rattle.std.proofs.Common.{sym, subst}
use Rattle.serial_judge.specs.Judge.{Judge}
use Rattle.serial_judge.specs.Follows.{Follows}
use Rattle.serial_judge.proofs.Events.{reverse-push}
use Rattle.serial_judge.proofs.Spawning.{spawned_some, follows_spawn}
use Rattle.serial_judge.proofs.judge.SerialJudge.spawn.Goals as goal

pub invariant_of-self-2 : goal.invariant_of-self-2
invariant_of-self-2 g c =
    rw (c.len.ensures, c.len-begin.ensures.is, c.in_ok-push.ensures.items, reverse-push)
    (spawned_some c.self.invariant.0 _ _ _ _ _ _ _ c.args.site c.self.invariant.1)

pub returns-clause-ok : goal.returns-clause-ok
returns-clause-ok g c run f =
    rw (c.len.ensures, c.len-begin.ensures.is, c.in_ok-push.ensures.items, reverse-push)
    (follows_spawn run _ _ _ _ _ _ _ c.args.site (subst (λ (z : Judge). Follows z run) (sym c.self.view_is) f))
