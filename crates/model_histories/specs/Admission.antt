-- Which requests the rules of legal histories admit, and that these get an entry.
use Rattle.std.specs.Prelude.{◌≡◌, List, [], ◌∷◌}
use Rattle.model_accesses.specs.declared.request.Request.{Request}
use Rattle.model_histories.specs.declared.answer.Answer.{Answer}
use Rattle.model_histories.specs.declared.reply.Reply.{Reply}
use Rattle.model_histories.specs.declared.reply.Reply.TheVariants.{Done, Illegal}
use Rattle.model_histories.specs.declared.fault.GateFault.{GateFault}
use Rattle.model_histories.specs.declared.fault.GateFault.TheVariants.{Stopped, Limit, Memory}
use Rattle.model_histories.specs.Entries.{Entries}
use Rattle.model_histories.specs.Shapes.{Shape}
use Rattle.model_histories.specs.Legal.{IsLegal}
use Rattle.model_histories.specs.States.{GateState}
use Rattle.model_histories.specs.Replies.{Judges}

-- some answer may follow: with it the history is legal
abbrev pub IsAdmitted : Shape → Entries → Request → Type 0
IsAdmitted shape entries request = (answer : Answer) × IsLegal shape (record { request = request; answer = answer } ∷ entries)

-- the fault is the gate's and not the request's: the gate was stopped, is at its limit, or there was no memory
abbrev pub IsOfTheGate : GateFault → Type 0
IsOfTheGate Stopped = Unit {0}
IsOfTheGate Limit = Unit {0}
IsOfTheGate Memory = Unit {0}
IsOfTheGate fault = ⊥

-- the reply has an entry, or a fault of the gate
abbrev pub IsEnteredOrOfTheGate : Reply → Type 0
IsEnteredOrOfTheGate (Done receipt) = Unit {0}
IsEnteredOrOfTheGate (Illegal fault) = IsOfTheGate fault

-- one reply to each request, in their order, and to each that is admitted when it comes an entry, but for a fault of the gate
abbrev pub AdmitsAll : GateState → List Request → List Reply → GateState → Type 0
AdmitsAll old [] [] new = new ≡ old
AdmitsAll old (request ∷ requests) (reply ∷ replies) new =
    (between : GateState) × Judges old request reply between × (IsAdmitted old.shape old.history request → IsEnteredOrOfTheGate reply) ×
    AdmitsAll between requests replies new
AdmitsAll old requests replies new = ⊥
