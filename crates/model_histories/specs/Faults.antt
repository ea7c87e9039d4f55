-- Why a request is not answered.
use Rattle.std.specs.Prelude.{◌≡◌, ◌<◌, ℕ, false, length, IsTrue}
use Rattle.model_accesses.specs.declared.request.Act.TheVariants.{Return}
use Rattle.model_accesses.specs.declared.request.Request.{Request}
use Rattle.model_strands.specs.Strands.{Running}
use Rattle.model_strands.specs.Blocks.{stack, IsSynced}
use Rattle.model_histories.specs.declared.fault.GateFault.{GateFault}
use Rattle.model_histories.specs.declared.fault.GateFault.TheVariants.{Stopped, Limit, NotRunning, BadName, Unsynced, Memory}
use Rattle.model_histories.specs.Entries.{control_part}
use Rattle.model_histories.specs.Shapes.{IsInRange}
use Rattle.model_histories.specs.States.{GateState}

-- the place of a fault in their order
abbrev pub place : GateFault → ℕ
place Stopped = 1
place Limit = 2
place NotRunning = 3
place BadName = 4
place Unsynced = 5
place Memory = 6

-- the cause of the fault is there; want of memory has none that a definition could name
abbrev pub HasCause : GateState → Request → GateFault → Type 0
HasCause state request Stopped = IsTrue state.stopped
HasCause state request Limit = length state.history ≡ state.limit
HasCause state request NotRunning = Running (control_part state.history) request.strand → ⊥
HasCause state request BadName = IsInRange state.shape request.act → ⊥
HasCause state request Unsynced = (request.act ≡ Return) × (IsSynced (stack (control_part state.history) request.strand) → ⊥)
HasCause state request Memory = Unit {0}

-- no fault before this one has its cause
abbrev pub HasNoneBefore : GateState → Request → GateFault → Type 0
HasNoneBefore state request fault = (other : GateFault) → place other < place fault → HasCause state request other → ⊥

-- no fault but want of memory has its cause
pub record IsFaultless (state : GateState) (request : Request) : Type 0 where
  pub going : state.stopped ≡ false
  pub below : length state.history < state.limit
  pub runs : Running (control_part state.history) request.strand
  pub in_range : IsInRange state.shape request.act
  pub synced : request.act ≡ Return → IsSynced (stack (control_part state.history) request.strand)

-- the fault is the first that has its cause
abbrev pub IsFirstFault : GateState → Request → GateFault → Type 0
IsFirstFault state request fault = HasCause state request fault × HasNoneBefore state request fault
