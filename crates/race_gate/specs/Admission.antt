-- What is admitted is entered.
use Rattle.std.specs.Prelude.{◌≡◌, ◌↔◌, ◌<◌, false, length}
use Rattle.model_histories.specs.Admission.{IsAdmitted, IsEnteredOrOfTheGate}
use Rattle.model_accesses.specs.declared.request.Request.{Request}
use Rattle.model_histories.specs.declared.reply.Reply.{Reply}
use Rattle.model_histories.specs.Legal.{IsLegal}
use Rattle.model_histories.specs.States.{GateState}
use Rattle.model_histories.specs.Faults.{IsFaultless}
use Rattle.model_histories.specs.Replies.{Judges}

-- a request has no fault but want of memory exactly where it is admitted by a gate that was not stopped and is below its limit
abbrev pub AdmissionLaw : Type 0
AdmissionLaw =
    (state : GateState) → IsLegal state.shape state.history → (request : Request) →
    IsFaultless state request
    ↔ ((state.stopped ≡ false) × (length state.history < state.limit) × IsAdmitted state.shape state.history request)

-- so whatever judges an admitted request enters it in the history, but for a fault of the gate
abbrev pub EntryLaw : Type 0
EntryLaw =
    (old new : GateState) (request : Request) (reply : Reply) → Judges old request reply new → IsAdmitted old.shape old.history request →
    IsEnteredOrOfTheGate reply
