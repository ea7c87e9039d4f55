-- What a task asks next.
use Rattle.std.proofs.Common.{◌≡◌, ℕ, Bool, List, [], ◌∷◌, ◌++◌, Result, Ok, Err, ap}
use Rattle.std.specs.Prelude.{IfOk, IsErrAnd, OnOk}
use Rattle.model_bodies.specs.Codes.{Code}
use Rattle.model_histories.specs.declared.reply.Receipt.{Receipt}
use Rattle.model_programs.specs.Exchanges.{Exchange}
use Rattle.frame_steps.specs.States.{FrameState}
use Rattle.frame_steps.specs.Frames.{IsAfter}
use Rattle.locked_replay.specs.declared.fault.RunFault.{RunFault}
use Rattle.steal_workers.specs.declared.worker.NextStep.{NextStep}
use Rattle.steal_workers.specs.Goings.{IsAtJoin}
use Rattle.steal_workers.specs.Workers.{MeetsJoin, EndsAtJoin}

pub on_ok : {T E : Type 0} (result : Result T E) (P : Type 0) → P → OnOk result P
on_ok (Ok value) P holds = holds
on_ok (Err fault) P holds = tt

pub if_ok : {T E : Type 0} (result : Result T E) (P Q : T → Type 0) → IfOk result P → ((value : T) → P value → Q value) → IfOk result Q
if_ok (Ok value) P Q holds step = step value holds
if_ok (Err fault) P Q holds step = tt

-- where its error is known, the result is
pub err_is : {T E : Type 0} (result : Result T E) (fault : E) → IsErrAnd result (λ e. e ≡ fault) → result ≡ Err fault
err_is (Ok value) fault is = absurd is
err_is (Err e) fault is = ap Err is

-- room for a call says nothing of what was said
pub roomy : (functions : List Code) (function argument : ℕ) (history : List Exchange) (frame : FrameState) (room : Bool) → IsAfter functions function argument history frame
    → IsAfter functions function argument history (record frame { has_room = room })
roomy functions function argument history frame room after = record { goes_on = after.goes_on; joins = after.joins; comes = after.comes }

-- where the answer is one at a join, the receipts end at a join
pub ends_at_join : (result : Result NextStep RunFault) (receipts before : List Receipt) (receipt : Receipt) → receipts ≡ before ++ receipt ∷ [] → IfOk result (λ going. IsAtJoin going → MeetsJoin receipt.answer)
    → IfOk result (λ going. IsAtJoin going → EndsAtJoin receipts)
ends_at_join (Ok going) receipts before receipt kept meets = λ at. (before, receipt, kept, meets at)
ends_at_join (Err fault) receipts before receipt kept meets = tt

pub ok_step : {T E : Type 0} (result : Result T E) (P Q : Type 0) → OnOk result P → (P → Q) → OnOk result Q
ok_step (Ok value) P Q holds step = step holds
ok_step (Err fault) P Q holds step = tt
