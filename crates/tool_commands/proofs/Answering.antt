-- The requests of a trace answered one after another.
use Rattle.std.proofs.Common.{◌≡◌, ◌+◌, List, [], ◌∷◌, ◌++◌, ◌≤◌, length, map, reverse, refl, ap, sym, subst, arith, ◌∙◌}
use Rattle.std.specs.List.{All}
use Rattle.std.proofs.lemmas.List.{length-map, length-reverse, map-append, reverse-reverse}
use Rattle.std.proofs.lemmas.List.Elements.{All-nil, All-push}
use Rattle.model_accesses.specs.declared.request.Request.{Request}
use Rattle.text_words.specs.declared.value.TraceLine.{TraceLine}
use Rattle.text_words.specs.Values.{Contents}
use Rattle.model_histories.specs.declared.answer.Entry.{Entry}
use Rattle.model_histories.specs.declared.reply.Receipt.{Receipt}
use Rattle.model_histories.specs.declared.reply.Reply.{Reply}
use Rattle.model_histories.specs.declared.reply.Reply.TheVariants.{Done, Illegal}
use Rattle.model_histories.specs.Faults.{IsFirstFault}
use Rattle.model_races.specs.Judged.{IsJudged}
use Rattle.model_histories.specs.Replies.{Judges, JudgesAll}
use Rattle.model_histories.specs.Shapes.{Shape, most_entries}
use Rattle.model_histories.specs.States.{GateState, opening}
use Rattle.race_gate.proofs.Lists.{JudgesAll-more}
use Rattle.race_pairs.specs.declared.digest.Digest.{Digest}
use Rattle.race_pairs.specs.Digests.{IsDigest}
use Rattle.command_streams.specs.Streams.{declared_shape, IsJudgedBy}
use Rattle.tool_commands.specs.declared.ask.Stop.{Stop}
use Rattle.tool_commands.specs.Digested.{IsDigested}
use Rattle.tool_commands.specs.Replays.{IsDone, AnswersAll, StopsAt}
use Rattle.command_streams.proofs.TakenLines.{requests_more}

-- a gate without entries has answered no request
pub none_answered : (shape : Shape) (gate : GateState) → gate ≡ opening shape most_entries → IsJudged gate.shape gate.history →
    (replies : List Reply) × IsJudgedBy shape most_entries [] replies gate × All IsDone replies
none_answered shape gate opens judged = ([], record { judges = opens; judged = judged }, All-nil IsDone)

-- one more was answered
pub answered_more : (taken : List TraceLine) (line : TraceLine) (shape : Shape) (old new : GateState) (receipt : Receipt) → Judges old line.request (Done receipt) new → IsJudged new.shape new.history →
    ((replies : List Reply) × IsJudgedBy shape most_entries (map (λ line. line.request) taken) replies old × All IsDone replies) →
    (replies : List Reply) × IsJudgedBy shape most_entries (map (λ line. line.request) (taken ++ line ∷ [])) replies new × All IsDone replies
answered_more taken line shape old new receipt judges judged before = (
  before.0 ++ Done receipt ∷ [],
  record {
    judges = JudgesAll-more _ _ _ _ _ _ _ _ _ (requests_more taken line) refl before.1.judges judges;
    judged = judged;
  },
  All-push IsDone before.0 (Done receipt) before.2 tt,
)

-- the first that is not answered stops the gate
pub answers_end : (taken later : List TraceLine) (line : TraceLine) (trace : Contents) (shape : Shape) (gate : GateState) (stop : Stop) →
    trace.lines ≡ taken ++ line ∷ later → shape ≡ declared_shape trace →
    ((replies : List Reply) × IsJudgedBy shape most_entries (map (λ line. line.request) taken) replies gate × All IsDone replies) →
    IsFirstFault gate stop.request stop.fault → line.request ≡ stop.request → stop.number ≡ length taken + 1 → StopsAt trace gate stop
answers_end taken later line trace shape gate stop same declared before first is place = record {
  earlier = map (λ line. line.request) taken;
  later = map (λ line. line.request) later;
  asked = ap (map (λ line. line.request)) same ∙ map-append (λ (line : TraceLine). line.request) taken (line ∷ later) ∙
      ap (λ (one : Request). map (λ (line : TraceLine). line.request) taken ++ one ∷ map (λ (line : TraceLine). line.request) later) is;
  number_is = (let count = length-map taken (λ (line : TraceLine). line.request) in omega (arith, place, count));
  replies = before.0;
  judges = subst (λ (those : Shape). IsJudgedBy those most_entries (map (λ line. line.request) taken) before.0 gate) declared before.1;
  done = before.2;
  first = first;
}

-- all were answered
pub answers_all : (trace : Contents) (taken : List TraceLine) (shape : Shape) (gate : GateState) → trace.lines ≡ taken → shape ≡ declared_shape trace →
    ((replies : List Reply) × IsJudgedBy shape most_entries (map (λ line. line.request) taken) replies gate × All IsDone replies) → AnswersAll trace gate
answers_all trace taken shape gate same declared before = record {
  replies = before.0;
  judges = subst (λ (those : List Request). IsJudgedBy (declared_shape trace) most_entries those before.0 gate)
      (ap (map (λ line. line.request)) (sym same))
      (subst (λ (those : Shape). IsJudgedBy those most_entries (map (λ line. line.request) taken) before.0 gate) declared before.1);
  done = before.2;
}

-- the limit of a gate stays
limit_stays : (old new : GateState) (request : Request) (reply : Reply) → Judges old request reply new → new.limit ≡ old.limit
limit_stays old new request (Done receipt) judges = ap (λ (state : GateState). state.limit) judges.after
limit_stays old new request (Illegal fault) judges = ap (λ (state : GateState). state.limit) judges.0

pub limit_kept : (requests : List Request) (replies : List Reply) (old new : GateState) → JudgesAll old requests replies new → new.limit ≡ old.limit
limit_kept [] [] old new judges = ap (λ (state : GateState). state.limit) judges
limit_kept [] (reply ∷ replies) old new judges = absurd judges
limit_kept (request ∷ requests) [] old new judges = absurd judges
limit_kept (request ∷ requests) (reply ∷ replies) old new judges =
    limit_kept requests replies judges.0 new judges.2 ∙ limit_stays old judges.0 request reply judges.1

-- the entries of a gate that answered all
pub few_answered : (trace : Contents) (gate : GateState) (entries : List Entry) → AnswersAll trace gate → length gate.history ≤ gate.limit →
    reverse entries ≡ gate.history → length entries ≤ most_entries
few_answered trace gate entries answers within same =
    let kept : gate.limit ≡ most_entries = limit_kept _ _ _ _ answers.judges.judges in
    let long = ap length (sym same) ∙ length-reverse entries in omega (arith, kept, within, long)

-- their digest is that of the trace
pub digest_answered : (trace : Contents) (gate : GateState) (entries : List Entry) (digest : Digest) → AnswersAll trace gate → reverse entries ≡ gate.history →
    IsDigest entries digest → IsDigested trace digest
digest_answered trace gate entries digest answers same is = record {
  gate = gate;
  answers = answers;
  digest_is = subst (λ (told : List Entry). IsDigest told digest) (sym (reverse-reverse entries) ∙ ap reverse same) is;
}
