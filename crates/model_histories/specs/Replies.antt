-- What a reply says of the gate before and after it.
use Rattle.std.specs.Prelude.{◌≡◌, List, [], ◌∷◌, length, Result, Ok, Err}
use Rattle.model_accesses.specs.declared.request.Request.{Request}
use Rattle.model_histories.specs.declared.reply.Receipt.{Receipt}
use Rattle.model_histories.specs.declared.reply.Reply.{Reply}
use Rattle.model_histories.specs.declared.reply.Reply.TheVariants.{Done, Illegal}
use Rattle.model_histories.specs.declared.fault.GateFault.{GateFault}
use Rattle.model_histories.specs.States.{GateState}
use Rattle.model_histories.specs.Faults.{IsFaultless, IsFirstFault}

-- the request was entered in the history as the receipt says, and shape, limit and whether the gate was stopped are as before
pub record IsEntered (old : GateState) (request : Request) (receipt : Receipt) (new : GateState) : Type 0 where
  pub faultless : IsFaultless old request
  pub asked : receipt.request ≡ request
  pub number : receipt.number ≡ length new.history
  pub after : new ≡ record old { history = record { request = request; answer = receipt.answer } ∷ old.history; memory = new.memory }

-- the gate replies so to the request, and is then in the new state; a fault changes nothing
abbrev pub Judges : GateState → Request → Reply → GateState → Type 0
Judges old request (Done receipt) new = IsEntered old request receipt new
Judges old request (Illegal fault) new = (new ≡ old) × IsFirstFault old request fault

-- one reply to each request, in their order
abbrev pub JudgesAll : GateState → List Request → List Reply → GateState → Type 0
JudgesAll old [] [] new = new ≡ old
JudgesAll old (request ∷ requests) (reply ∷ replies) new =
    (between : GateState) × Judges old request reply between × JudgesAll between requests replies new
JudgesAll old requests replies new = ⊥

abbrev pub reply_of : Result Receipt GateFault → Reply
reply_of (Ok receipt) = Done receipt
reply_of (Err fault) = Illegal fault
