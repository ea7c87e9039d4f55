-- Why there is no whole run, from what the logs and the gate show.
use Rattle.std.proofs.Common.{◌≡◌, ◌↔◌, Bool, true, false, List, reverse, refl, sym, ◌∙◌, Result, Err}
use Rattle.model_histories.specs.Shapes.{Shape}
use Rattle.model_histories.specs.States.{GateState}
use Rattle.model_bodies.specs.Codes.{Code}
use Rattle.locked_replay.specs.declared.fault.RunFault.{RunFault}
use Rattle.locked_replay.specs.declared.fault.RunFault.TheVariants.{Limit, Stopped, Torn, Strange, Memory}
use Rattle.locked_replay.specs.declared.worker.WorkerLog.{WorkerLog}
use Rattle.locked_replay.specs.Logs.{AreWhole}
use Rattle.locked_replay.specs.Strange.{IsStrangeGate}
use Rattle.locked_replay.specs.Faults.{HasFault}

not_stopped : (stopped : Bool) → (stopped ≡ true → ⊥) → stopped ≡ false
not_stopped true not = absurd (not refl)
not_stopped false not = refl

module _ {L A T : Type 0} (functions : List Code) (shape : Shape) (gate : GateState) (logs : List (WorkerLog L A)) where
  -- the logs are whole, and the gate is not that of a finished run
  pub run_faulted : (checked : Result T RunFault) (fault : RunFault) → (checked ≡ Err Stopped → ⊥) → (gate.stopped ≡ true → checked ≡ Err Stopped) →
      AreWhole (reverse gate.history) logs → (fault ≡ Strange → IsStrangeGate functions shape gate) → (fault ≡ Limit → ⊥) → (fault ≡ Stopped → ⊥) →
      (fault ≡ Torn → ⊥) → HasFault functions shape gate logs fault
  run_faulted checked Limit going stops whole strange limit stopped torn = absurd (limit refl)
  run_faulted checked Stopped going stops whole strange limit stopped torn = absurd (stopped refl)
  run_faulted checked Torn going stops whole strange limit stopped torn = absurd (torn refl)
  run_faulted checked Strange going stops whole strange limit stopped torn = (not_stopped gate.stopped (λ is. going (stops is)), whole, strange refl)
  run_faulted checked Memory going stops whole strange limit stopped torn = not_stopped gate.stopped (λ is. going (stops is))

  -- the logs are not whole, or there was no memory to look at them, or the gate is stopped
  pub logs_faulted : (checked : Result T RunFault) (fault : RunFault) → checked ≡ Err fault → (checked ≡ Err Stopped) ↔ (gate.stopped ≡ true) →
      (checked ≡ Err Torn → AreWhole (reverse gate.history) logs → ⊥) → (checked ≡ Err Limit → ⊥) × (checked ≡ Err Strange → ⊥) →
      HasFault functions shape gate logs fault
  logs_faulted checked Limit is stopped torn others = absurd (others.0 is)
  logs_faulted checked Stopped is stopped torn others = stopped.0 is
  logs_faulted checked Torn is stopped torn others =
      (not_stopped gate.stopped (λ stops. let same = sym is ∙ stopped.1 stops in cc), torn is)
  logs_faulted checked Strange is stopped torn others = absurd (others.1 is)
  logs_faulted checked Memory is stopped torn others =
      not_stopped gate.stopped (λ stops. let same = sym is ∙ stopped.1 stops in cc)
