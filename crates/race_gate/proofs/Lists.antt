-- Replies to a list of requests, one after another.
use Rattle.std.proofs.Common.{◌≡◌, List, [], ◌∷◌, ◌++◌, refl, subst}
use Rattle.model_accesses.specs.declared.request.Request.{Request}
use Rattle.model_histories.specs.declared.reply.Reply.{Reply}
use Rattle.model_histories.specs.States.{GateState}
use Rattle.model_histories.specs.Replies.{Judges, JudgesAll}

-- one more request and its reply
JudgesAll-append : (old between new : GateState) (requests : List Request) (replies : List Reply) (request : Request) (reply : Reply) →
    JudgesAll old requests replies between → Judges between request reply new → JudgesAll old (requests ++ request ∷ []) (replies ++ reply ∷ []) new
JudgesAll-append old between new [] [] request reply same judges = (new, subst (λ state. Judges state request reply new) same judges, refl)
JudgesAll-append old between new [] (other ∷ replies) request reply none judges = absurd none
JudgesAll-append old between new (first ∷ requests) [] request reply none judges = absurd none
JudgesAll-append old between new (first ∷ requests) (other ∷ replies) request reply all judges =
    (all.0, all.1, JudgesAll-append all.0 between new requests replies request reply all.2 judges)

pub JudgesAll-more : (old between new : GateState) (requests more : List Request) (replies longer : List Reply) (request : Request) (reply : Reply) →
    more ≡ requests ++ request ∷ [] → longer ≡ replies ++ reply ∷ [] → JudgesAll old requests replies between → Judges between request reply new →
    JudgesAll old more longer new
JudgesAll-more old between new requests more replies longer request reply more_is longer_is all judges =
    rw (more_is, longer_is) (JudgesAll-append old between new requests replies request reply all judges)
