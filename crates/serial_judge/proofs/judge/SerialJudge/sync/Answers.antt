-- A block ends, or there is none.
use Rattle.std.proofs.Common.{inl, inr, sym, subst}
use Rattle.model_strands.specs.History.{same, joined}
use Rattle.model_serial_runs.specs.Current.{current}
use Rattle.serial_judge.specs.Judge.{Judge}
use Rattle.serial_judge.specs.Runs.{and_then}
use Rattle.serial_judge.specs.Follows.{Follows}
use Rattle.serial_judge.proofs.Events.{follows_same, follows_joined}
use Rattle.serial_judge.proofs.judge.SerialJudge.sync.Goals as goal

pub invariant_of-self : goal.invariant_of-self
invariant_of-self g c = (
  and_then (same (current c.self.invariant.0.history)) c.self.invariant.0,
  follows_same c.self.invariant.0 _ _ _ _ _ _ _ c.self.invariant.1 c.in-None.is,
)

pub invariant_of-self-in-Some : goal.invariant_of-self-in-Some
invariant_of-self-in-Some g c =
    let t = follows_joined c.self.invariant.0 _ _ _ _ _ _ _ c.self.invariant.1 c.in-Some.field-0 c.in-Some.is in
    rw (c.cut.ensures, c.len.ensures.is) (and_then (joined (current c.self.invariant.0.history) t.0) c.self.invariant.0, t.1)

pub returns-in-None-clause-ok : goal.returns-in-None-clause-ok
returns-in-None-clause-ok g c run f =
    inl (follows_same run _ _ _ _ _ _ _ (subst (λ (z : Judge). Follows z run) (sym c.self.view_is) f) c.in-None.is)

pub returns-in-Some-clause-ok : goal.returns-in-Some-clause-ok
returns-in-Some-clause-ok g c run f =
    rw (c.cut.ensures, c.len.ensures.is)
    (inr (follows_joined run _ _ _ _ _ _ _ (subst (λ (z : Judge). Follows z run) (sym c.self.view_is) f) c.in-Some.field-0 c.in-Some.is))
