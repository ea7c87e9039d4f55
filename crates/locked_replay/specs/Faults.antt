-- Why there is no whole run of a gate and the logs of those who asked it.
use Rattle.std.specs.Prelude.{◌≡◌, true, false, List, reverse}
use Rattle.model_histories.specs.Shapes.{Shape}
use Rattle.model_histories.specs.States.{GateState}
use Rattle.model_bodies.specs.Codes.{Code}
use Rattle.locked_replay.specs.declared.fault.RunFault.{RunFault}
use Rattle.locked_replay.specs.declared.fault.RunFault.TheVariants.{Limit, Stopped, Torn, Strange, Memory}
use Rattle.locked_replay.specs.declared.worker.WorkerLog.{WorkerLog}
use Rattle.locked_replay.specs.Logs.{AreWhole}
use Rattle.locked_replay.specs.Strange.{IsStrangeGate}

-- The gate is stopped; or it is not, and the logs are not whole; or they are, and the gate is not that of a finished run of the program.
-- The first of these counts, and want of memory may come at any growth behind the first.
abbrev pub HasFault : {L A : Type 0} → List Code → Shape → GateState → List (WorkerLog L A) → RunFault → Type 0
HasFault functions shape gate logs Limit = ⊥
HasFault functions shape gate logs Stopped = gate.stopped ≡ true
HasFault functions shape gate logs Torn = (gate.stopped ≡ false) × (AreWhole (reverse gate.history) logs → ⊥)
HasFault functions shape gate logs Strange =
    (gate.stopped ≡ false) × AreWhole (reverse gate.history) logs × IsStrangeGate functions shape gate
HasFault functions shape gate logs Memory = gate.stopped ≡ false
