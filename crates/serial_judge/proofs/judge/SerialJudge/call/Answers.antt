-- A function is called.
use Rattle.std.proofs.Common.{sym, subst}
use Rattle.model_strands.specs.History.{call}
use Rattle.model_serial_runs.specs.Current.{current}
use Rattle.serial_judge.specs.Judge.{Judge}
use Rattle.serial_judge.specs.Runs.{and_then}
use Rattle.serial_judge.specs.Follows.{Follows}
use Rattle.serial_judge.proofs.Events.{follows_call, reverse-push}
use Rattle.serial_judge.proofs.judge.SerialJudge.call.Goals as goal

pub invariant_of-self-2 : goal.invariant_of-self-2
invariant_of-self-2 g c =
    rw (c.len.ensures, c.running_branch-branch.ensures, c.in_ok-push.ensures.items, reverse-push)
    (and_then (call (current c.self.invariant.0.history)) c.self.invariant.0, follows_call c.self.invariant.0 _ _ _ _ _ _ _ c.self.invariant.1)

pub returns-clause-ok : goal.returns-clause-ok
returns-clause-ok g c run f =
    rw (c.len.ensures, c.running_branch-branch.ensures, c.in_ok-push.ensures.items, reverse-push)
    (follows_call run _ _ _ _ _ _ _ (subst (λ (z : Judge). Follows z run) (sym c.self.view_is) f))
