-- What one history that the strands follow says, each says.
use Rattle.std.proofs.Common.{◌≡◌, ℕ, refl, subst, arith}
use Rattle.model_strands.specs.History.{History}
use Rattle.model_strands.specs.Strands.{unused, Running}
use Rattle.model_strands.specs.Blocks.{Stack, stack, IsSynced}
use Rattle.sp_labels.specs.Roster.{Roster, Follows, HasFewLeft, IsStanding, record_at}
use Rattle.sp_labels.specs.declared.record.Scope.TheVariants.{Block}
use Rattle.sp_labels.proofs.Queries.{running-known}
use Rattle.sp_labels.proofs.Acting.{in-block, in-synced}

module _ (roster : Roster) (history other : History) (follows : Follows roster history) (also : Follows roster other) where
  pub running-in-each : (strand : ℕ) → Running history strand → Running other strand
  running-in-each strand runs =
      let known = running-known roster history follows strand runs in
      subst (IsStanding other strand) known.1 (also.each strand known.0).standing

  pub synced-in-each : (strand : ℕ) → Running history strand → IsSynced (stack history strand) → IsSynced (stack other strand)
  synced-in-each strand runs synced =
      let kept = record_at roster.records strand in
      let none : (join : ℕ) → kept.scope ≡ Block join → ⊥ = λ join e.
      let at = (in-block roster history follows strand join kept runs refl e).1 in
      let P : Stack → Type 0 = λ where_it_stands. IsSynced where_it_stands in
      subst P at synced in
      in-synced roster other also strand kept (running-in-each strand runs) refl none

  pub few-in-each : HasFewLeft other → HasFewLeft history
  few-in-each few = let same : unused history ≡ unused other = omega (arith, follows.count, also.count) in omega arith
