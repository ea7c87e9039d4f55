-- What a worker keeps of what it asked.
use Rattle.std.specs.Prelude.{◌≡◌, ◌≢◌, ◌⊎◌, ℕ, List, [], ◌∷◌, ◌++◌, Result, Ok, Err}
use Rattle.model_accesses.specs.declared.request.Request.{Request}
use Rattle.model_histories.specs.declared.answer.Answer.{Answer}
use Rattle.model_histories.specs.declared.reply.Receipt.{Receipt}
use Rattle.model_histories.specs.declared.fault.GateFault.{GateFault}
use Rattle.model_histories.specs.declared.fault.GateFault.TheVariants as gate
use Rattle.locked_replay.specs.declared.fault.RunFault.{RunFault}
use Rattle.locked_replay.specs.declared.fault.RunFault.TheVariants.{Limit, Stopped, Strange, Memory}

-- what a fault of the gate means for the run
abbrev pub fault_of : GateFault → RunFault
fault_of gate.Stopped = Stopped
fault_of gate.Limit = Limit
fault_of gate.NotRunning = Strange
fault_of gate.BadName = Strange
fault_of gate.Unsynced = Strange
fault_of gate.Memory = Memory

-- At Ok a receipt of that request was kept, with the answer. At Err nothing was kept, and the gate's fault or want of memory is told; or
-- the receipt that was kept is of another request, which is strange.
abbrev pub KeepsReceipt : Request → List Receipt → List Receipt → Result Answer RunFault → Type 0
KeepsReceipt request before after (Ok answer) =
    (number : ℕ) × (after ≡ before ++ record { number = number; request = request; answer = answer } ∷ [])
KeepsReceipt request before after (Err fault) =
    ((after ≡ before) × ((cause : GateFault) × (fault ≡ fault_of cause)))
    ⊎ ((fault ≡ Strange) × ((receipt : Receipt) × (after ≡ before ++ receipt ∷ []) × (receipt.request ≢ request)))
