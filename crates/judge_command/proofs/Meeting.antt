-- What was met among replies, one after another.
use Rattle.std.proofs.Common.{◌≡◌, ◌||◌, ℕ, zero, arith, Bool, true, false, Option, List, [], ◌∷◌, ◌++◌, map, append-nil, refl, ap, sym, subst, ◌∙◌}
use Rattle.std.specs.List.{list_any}
use Rattle.std.proofs.lemmas.List.Folds.{list_any-append}
use Rattle.std.proofs.lemmas.List.Concat.{flat_map-append}
use Rattle.model_accesses.specs.declared.request.Request.{Request}
use Rattle.text_words.specs.declared.value.TraceLine.{TraceLine}
use Rattle.text_words.specs.Values.{Contents}
use Rattle.model_histories.specs.declared.reply.Reply.{Reply}
use Rattle.model_histories.specs.Shapes.{Shape}
use Rattle.model_histories.specs.States.{GateState, opening}
use Rattle.model_histories.specs.Replies.{Judges, JudgesAll}
use Rattle.model_races.specs.Judged.{IsJudged}
use Rattle.race_gate.specs.Cores.{CoreState, IsCoreOf}
use Rattle.race_gate.proofs.Lists.{JudgesAll-more}
use Rattle.verdict_lines.specs.VerdictText.{HasWords, line_of_reply, verdict_text}
use Rattle.verdict_lines.proofs.GateWords.{replies_have_words}
use Rattle.judge_command.specs.declared.status.StatusFlags.{StatusFlags}
use Rattle.judge_command.specs.declared.by_kind.Verdicts.{Verdicts}
use Rattle.command_streams.specs.Streams.{declared_shape, requests_of}
use Rattle.judge_command.specs.Statuses.{is_memory, is_limit, is_illegal, is_refusal}
use Rattle.judge_command.specs.StatusFlags.{HasMet, HasJudged, Tells, TellsTrace}
use Rattle.command_streams.proofs.TakenLines.{requests_more}

or_none : (b : Bool) → (b || false) ≡ b
or_none true = refl
or_none false = refl

any_more : (p : Reply → Bool) (replies : List Reply) (reply : Reply) (old new : Bool) → new ≡ (old || p reply) → old ≡ list_any p replies →
    new ≡ list_any p (replies ++ reply ∷ [])
any_more p replies reply old new is before =
    is ∙ ap (λ b. b || p reply) before ∙ ap (λ b. list_any p replies || b) (sym (or_none (p reply))) ∙ sym (list_any-append p replies (reply ∷ []))

pub met_more : (replies : List Reply) (reply : Reply) (old new : StatusFlags) → new.memory ≡ (old.memory || is_memory reply) → new.limit ≡ (old.limit || is_limit reply) →
    new.illegal ≡ (old.illegal || is_illegal reply) → new.refusal ≡ (old.refusal || is_refusal reply) → HasMet replies old → HasMet (replies ++ reply ∷ []) new
met_more replies reply old new memory limit illegal refusal met = record {
  memory = any_more is_memory replies reply old.memory new.memory memory met.memory;
  limit = any_more is_limit replies reply old.limit new.limit limit met.limit;
  illegal = any_more is_illegal replies reply old.illegal new.illegal illegal met.illegal;
  refusal = any_more is_refusal replies reply old.refusal new.refusal refusal met.refusal;
}

pub lines_more : (replies : List Reply) (reply : Reply) → verdict_text replies ++ line_of_reply reply ≡ verdict_text (replies ++ reply ∷ [])
lines_more replies reply =
    ap (λ l. verdict_text replies ++ l) (sym (append-nil (line_of_reply reply))) ∙ sym (flat_map-append line_of_reply replies (reply ∷ []))

module _ {A : Type 0} (start : GateState) (core : CoreState) (verdicts : Verdicts A) (wrote writes : Option (List ℕ)) (failed : Bool) where
  -- the request of one more line was judged
  pub judged_more : (taken : List TraceLine) (line : TraceLine) (replies : List Reply) →
      HasJudged start (map (λ line. line.request) taken ++ line.request ∷ []) replies core verdicts wrote writes failed →
      HasJudged start (map (λ line. line.request) (taken ++ line ∷ [])) replies core verdicts wrote writes failed
  judged_more taken line replies judged =
      subst (λ (asked : List Request). HasJudged start asked replies core verdicts wrote writes failed) (sym (requests_more taken line)) judged

  -- what was told of all requests of a trace
  pub told_trace : (contents : Contents) (limit : ℕ) (shape : Shape) (requests : List Request) (replies : List Reply) → start ≡ opening shape limit →
      shape ≡ declared_shape contents → requests ≡ requests_of contents → HasJudged start requests replies core verdicts wrote writes failed →
      TellsTrace contents limit wrote writes failed verdicts
  told_trace contents limit shape requests replies opened declared asked judged = (
    replies,
    record {
      last = judged.last;
      judges = record {
        judges = subst (λ (those : List Request). JudgesAll (opening (declared_shape contents) limit) those replies judged.last) asked
            (subst (λ (first : GateState). JudgesAll first requests replies judged.last) (opened ∙ ap (λ (s : Shape). opening s limit) declared) judged.judges);
        judged = judged.fits.kept.right.judged;
      };
    },
    judged.tells,
  )

-- the reply to a request has its words
pub has_words : (state next : GateState) (request : Request) (reply : Reply) → Judges state request reply next → IsJudged next.shape next.history → HasWords reply
has_words state next request reply judges judged =
    let words = replies_have_words (request ∷ []) (reply ∷ []) state next (next, judges, refl) judged in
    words.1 zero reply (omega arith)

-- one request more was judged, and its reply told
pub judged_and_told : (A : Type 0) (start : GateState) (requests : List Request) (replies : List Reply) (core after : CoreState) (verdicts new : Verdicts A)
    (wrote writes later : Option (List ℕ)) (failed fails : Bool) (request : Request) (reply : Reply) →
    (judged : HasJudged start requests replies core verdicts wrote writes failed) → (next : GateState) × Judges judged.last request reply next × IsCoreOf after next →
    (Tells replies verdicts wrote writes failed → Tells (replies ++ reply ∷ []) new wrote later fails) →
    HasJudged start (requests ++ request ∷ []) (replies ++ reply ∷ []) after new wrote later fails
judged_and_told A start requests replies core after verdicts new wrote writes later failed fails request reply judged next tells = record {
  last = next.0;
  judges = JudgesAll-more _ _ _ _ _ _ _ _ _ refl refl judged.judges next.1;
  fits = next.2;
  tells = tells judged.tells;
}
