-- Which fault of a request is the first.
use Rattle.std.proofs.Common.{◌≡◌, ℕ, ◌<◌, true, false, length, subst, arith}
use Rattle.model_accesses.specs.declared.request.Request.{Request}
use Rattle.model_strands.specs.Strands.{Running}
use Rattle.model_histories.specs.declared.fault.GateFault.{GateFault}
use Rattle.model_histories.specs.declared.fault.GateFault.TheVariants.{Stopped, Limit, NotRunning, BadName, Unsynced, Memory}
use Rattle.model_histories.specs.Entries.{control_part}
use Rattle.model_histories.specs.Shapes.{IsInRange}
use Rattle.model_histories.specs.States.{GateState}
use Rattle.model_histories.specs.Faults.{IsFaultless, IsFirstFault, HasCause, place}

module _ (state : GateState) (request : Request) where
  -- no fault below this place has its cause
  none-below : (end : ℕ) → end < 6 → (1 < end → state.stopped ≡ false) → (2 < end → length state.history < state.limit) →
      (3 < end → Running (control_part state.history) request.strand) → (4 < end → IsInRange state.shape request.act) → (other : GateFault) → place other < end →
      HasCause state request other → ⊥
  none-below end few going under runs in_range Stopped below has = absurd (let is = going below in cc)
  none-below end few going under runs in_range Limit below has = absurd (let is = under below in omega arith)
  none-below end few going under runs in_range NotRunning below has = has (runs below)
  none-below end few going under runs in_range BadName below has = has (in_range below)
  none-below end few going under runs in_range Unsynced below has = absurd (omega arith)
  none-below end few going under runs in_range Memory below has = absurd (omega arith)

module _ (state now : GateState) (request : Request) (same : state ≡ now) where
  pub first-stopped : state.stopped ≡ true → IsFirstFault now request Stopped
  first-stopped stopped = subst (λ (s : GateState). IsFirstFault s request Stopped) same
      (stopped, none-below state request 1 (omega arith) (λ e. absurd (omega arith)) (λ e. absurd (omega arith)) (λ e. absurd (omega arith)) (λ e. absurd (omega arith)))

  pub first-limit : state.stopped ≡ false → length state.history ≡ state.limit → IsFirstFault now request Limit
  first-limit going full = subst (λ (s : GateState). IsFirstFault s request Limit) same
      (full, none-below state request 2 (omega arith) (λ e. going) (λ e. absurd (omega arith)) (λ e. absurd (omega arith)) (λ e. absurd (omega arith)))

  pub first-not_running : state.stopped ≡ false → length state.history < state.limit → (Running (control_part state.history) request.strand → ⊥) →
      IsFirstFault now request NotRunning
  first-not_running going under not = subst (λ (s : GateState). IsFirstFault s request NotRunning) same
      (not, none-below state request 3 (omega arith) (λ e. going) (λ e. under) (λ e. absurd (omega arith)) (λ e. absurd (omega arith)))

  pub first-bad_name : state.stopped ≡ false → length state.history < state.limit → Running (control_part state.history) request.strand →
      (IsInRange state.shape request.act → ⊥) → IsFirstFault now request BadName
  first-bad_name going under runs not = subst (λ (s : GateState). IsFirstFault s request BadName) same
      (not, none-below state request 4 (omega arith) (λ e. going) (λ e. under) (λ e. runs) (λ e. absurd (omega arith)))

-- a request without fault is refused for want of memory alone
pub only-memory : (state : GateState) (request : Request) → IsFaultless state request → IsFirstFault state request Memory
only-memory state request faultless = (tt, no_other)
  where
    no_other : (other : GateFault) → place other < 6 → HasCause state request other → ⊥
    no_other Stopped below has = absurd (let going = faultless.going in cc)
    no_other Limit below has = absurd (let under = faultless.below in omega arith)
    no_other NotRunning below has = has faultless.runs
    no_other BadName below has = has faultless.in_range
    no_other Unsynced below has = has.1 (faultless.synced has.0)
    no_other Memory below has = absurd (omega arith)
