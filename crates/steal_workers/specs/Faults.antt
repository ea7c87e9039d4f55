-- Which fault a run answers.
use Rattle.std.specs.Prelude.{◌≡◌, ◌≤◌, ◌⊎◌, ℕ, Bool, true, false, List, Option, Some, None, All, Contains}
use Rattle.frame_steps.specs.declared.frame.FrameFault.{FrameFault}
use Rattle.frame_steps.specs.declared.frame.FrameFault.TheVariants as frame
use Rattle.locked_replay.specs.declared.fault.RunFault.{RunFault}
use Rattle.locked_replay.specs.declared.fault.RunFault.TheVariants.{Limit, Stopped, Torn, Strange, Memory}
use Rattle.steal_workers.specs.declared.lot.LotFault.{LotFault}
use Rattle.steal_workers.specs.declared.lot.LotFault.TheVariants as lot

-- what a refused answer means for the run
abbrev pub refusal_of : FrameFault → RunFault
refusal_of frame.Strange = Strange
refusal_of frame.Memory = Memory

-- what a fault of the lot means for the run
abbrev pub meeting_of : LotFault → RunFault
meeting_of lot.Torn = Torn
meeting_of lot.Memory = Memory

-- that the gate was stopped tells least: another worker's fault stopped it
abbrev pub rank : RunFault → ℕ
rank Limit = 1
rank Torn = 2
rank Strange = 3
rank Memory = 4
rank Stopped = 5

abbrev pub rank_or_last : Option RunFault → ℕ
rank_or_last None = 6
rank_or_last (Some fault) = rank fault

-- the third is one of the other two, and neither goes before it
abbrev pub IsFirst : Option RunFault → Option RunFault → Option RunFault → Type 0
IsFirst one other first =
    ((first ≡ one) ⊎ (first ≡ other)) × (rank_or_last first ≤ rank_or_last one) × (rank_or_last first ≤ rank_or_last other)

-- a thread that could not be started
abbrev pub refused_thread : Bool → Option RunFault
refused_thread true = None
refused_thread false = Some Memory

-- the first of some faults: one of them, or none, and none of them goes before it
abbrev pub IsFirstOf : List (Option RunFault) → Option RunFault → Type 0
IsFirstOf faults first = ((first ≡ None) ⊎ Contains faults first) × All (λ fault. rank_or_last first ≤ rank_or_last fault) faults
