-- What an answer tells of the causes of faults, and what cannot be.
use Rattle.std.proofs.Common.{◌≡◌, ◌↔◌, ℕ, true, false, Ok, Err, IsErrOf, refl, sym, ◌∙◌}
use Rattle.sp_labels.specs.declared.answer.SpFault.{SpFault}
use Rattle.sp_labels.specs.declared.answer.SpFault.TheVariants.{NotRunning, Unsynced, Full}
use Rattle.sp_labels.specs.declared.record.Scope.{Scope}
use Rattle.sp_labels.specs.declared.record.Scope.TheVariants.{Child, Call, Block}

module _ {T : Type 0} where
  -- what was granted had no cause to be refused
  pub granted : {Cause : Type 0} (answer : T) (fault : SpFault) → (Cause → ⊥) → IsErrOf (Ok answer) fault ↔ Cause
  granted answer fault none = ((λ t. absurd (cc)), (λ cause. absurd (none cause)))

  pub ok-err : {E : Type 0} {answer : T} {fault : E} → Ok answer ≡ Err fault → ⊥
  ok-err e = cc

  -- what was refused had this cause, and none of the others
  pub refused : {Cause : Type 0} (fault : SpFault) → Cause → IsErrOf {T = T} (Err fault) fault ↔ Cause
  refused fault cause = ((λ t. cause), (λ c. refl))

  pub not-unsynced : {Cause : Type 0} → (Cause → ⊥) → IsErrOf {T = T} (Err NotRunning) Unsynced ↔ Cause
  not-unsynced none = ((λ t. absurd (cc)), (λ cause. absurd (none cause)))

  pub not-full : {Cause : Type 0} → (Cause → ⊥) → IsErrOf {T = T} (Err NotRunning) Full ↔ Cause
  not-full none = ((λ t. absurd (cc)), (λ cause. absurd (none cause)))

  pub was-running : {Cause : Type 0} → (Cause → ⊥) → IsErrOf {T = T} (Err Unsynced) NotRunning ↔ Cause
  was-running none = ((λ t. absurd (cc)), (λ cause. absurd (none cause)))

-- there is no room after an event
pub no-room : {A : Type 0} → false ≡ true → A
no-room e = absurd (cc)

-- a scope of a function is no block
pub call-no-block : {scope : Scope} {key join : ℕ} → scope ≡ Call key → scope ≡ Block join → ⊥
call-no-block is other = let clash = sym is ∙ other in cc

pub child-no-block : {scope : Scope} {block join : ℕ} → scope ≡ Child block → scope ≡ Block join → ⊥
child-no-block is other = let clash = sym is ∙ other in cc
