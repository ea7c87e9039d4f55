-- When a gate is not that of a finished run.
use Rattle.std.specs.Prelude.{◌≡◌, ◌⊎◌, ℕ, List, reverse}
use Rattle.model_histories.specs.Shapes.{Shape}
use Rattle.model_histories.specs.States.{GateState}
use Rattle.model_bodies.specs.Codes.{Code}
use Rattle.run_replay.specs.declared.replays.ReplayFault.{ReplayFault}
use Rattle.run_replay.specs.declared.replays.ReplayFault.TheVariants as replay_fault
use Rattle.run_replay.specs.Replays.{IsUnfinishedRun, IsStrange}
use Rattle.locked_replay.specs.declared.fault.RunFault.{RunFault}
use Rattle.locked_replay.specs.declared.fault.RunFault.TheVariants.{Strange, Memory}

-- what a fault of `replay` says of a run
abbrev pub run_fault_of : ReplayFault → RunFault
run_fault_of (replay_fault.Strange number) = Strange
run_fault_of replay_fault.Unfinished = Strange
run_fault_of replay_fault.Memory = Memory

-- the gate is of another shape than the program's, or its history is strange or unfinished, as `replay` says of it
abbrev pub IsStrangeGate : List Code → Shape → GateState → Type 0
IsStrangeGate functions shape gate =
    (gate.shape ≡ shape → ⊥) ⊎
    ((number : ℕ) × IsStrange functions shape (reverse gate.history) number) ⊎
    IsUnfinishedRun functions shape gate.history
