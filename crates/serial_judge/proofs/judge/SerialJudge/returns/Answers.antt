-- A function with an open block does not return.
use Rattle.std.proofs.Common.{sym, subst, refl}
use Rattle.model_strands.specs.Blocks.{IsSynced}
use Rattle.serial_judge.specs.Judge.{Judge}
use Rattle.serial_judge.specs.Follows.{Follows}
use Rattle.serial_judge.proofs.Events.{not_synced, is_synced}
use Rattle.serial_judge.proofs.judge.SerialJudge.returns.Goals as goal

pub returns-in-Some-clause-unsynced : goal.returns-in-Some-clause-unsynced
returns-in-Some-clause-unsynced g c run f = (
  (λ e. not_synced run _ _ _ _ _ _ _ (subst (λ (z : Judge). Follows z run) (sym c.self.view_is) f) c.in-Some.field-0 c.in-Some.is),
  (λ k. refl),
)

pub returns-in-Some-clause-at_root : goal.returns-in-Some-clause-at_root
returns-in-Some-clause-at_root g c run f = (
  (λ e. cc),
  (λ r. absurd (not_synced run _ _ _ _ _ _ _ (subst (λ (z : Judge). Follows z run) (sym c.self.view_is) f) c.in-Some.field-0 c.in-Some.is
      (subst IsSynced (sym r) tt))),
)

pub returns-in-None-clause-unsynced : goal.returns-in-None-clause-unsynced
returns-in-None-clause-unsynced g c run f = (
  (λ e. absurd (c.step_out.ensures.not_unsynced e)),
  (λ k. absurd (k (is_synced run _ _ _ _ _ _ _ (subst (λ (z : Judge). Follows z run) (sym c.self.view_is) f) c.in-None.is))),
)
