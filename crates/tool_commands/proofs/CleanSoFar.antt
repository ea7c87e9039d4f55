-- The requests of a trace judged without a history, while none is refused.
use Rattle.std.proofs.Common.{◌≡◌, ℕ, List, [], ◌∷◌, ◌++◌, map, refl, ap, ◌∙◌}
use Rattle.std.specs.List.{All}
use Rattle.std.proofs.lemmas.List.Elements.{All-nil, All-cons, All-push, All-same}
use Rattle.model_accesses.specs.declared.request.Request.{Request}
use Rattle.text_words.specs.declared.value.TraceLine.{TraceLine}
use Rattle.text_words.specs.Values.{Contents}
use Rattle.model_histories.specs.declared.answer.Entry.{Entry}
use Rattle.model_histories.specs.declared.reply.Reply.{Reply}
use Rattle.model_histories.specs.declared.reply.Reply.TheVariants.{Done, Illegal}
use Rattle.model_histories.specs.Extensions.{IsCleanAnswer, IsClean}
use Rattle.model_histories.specs.Replies.{Judges, JudgesAll}
use Rattle.model_histories.specs.Shapes.{Shape, most_entries}
use Rattle.model_histories.specs.States.{GateState, opening}
use Rattle.race_gate.specs.Cores.{CoreState, IsCoreOf}
use Rattle.race_gate.proofs.Lists.{JudgesAll-more}
use Rattle.command_streams.specs.Streams.{declared_shape}
use Rattle.command_streams.proofs.TakenLines.{requests_more}
use Rattle.tool_commands.specs.Replays.{IsDone}
use Rattle.tool_commands.specs.Cleanness.{IsCleanReply, IsAllClean}
use Rattle.tool_commands.proofs.Answering.{answers_all}

-- some gate that fits the core has answered these requests, and refused none
pub record IsCleanSoFar (shape : Shape) (requests : List Request) (core : CoreState) : Type 0 where
  pub gate : GateState
  pub fits : IsCoreOf core gate
  pub replies : List Reply
  pub judges : JudgesAll (opening shape most_entries) requests replies gate
  pub done : All IsDone replies
  pub clean : IsClean gate.history

pub clean_at_first : (shape : Shape) (core : CoreState) → IsCoreOf core (opening shape most_entries) → IsCleanSoFar shape [] core
clean_at_first shape core fits = record {
  gate = opening shape most_entries;
  fits = fits;
  replies = [];
  judges = refl;
  done = All-nil IsDone;
  clean = All-nil (λ (entry : Entry). IsCleanAnswer entry.answer);
}

pub clean_more : (shape : Shape) (taken : List TraceLine) (line : TraceLine) (old new : CoreState) (reply : Reply) →
    (so_far : IsCleanSoFar shape (map (λ line. line.request) taken) old) →
    ((next : GateState) × Judges so_far.gate line.request reply next × IsCoreOf new next) → IsCleanReply reply →
    IsCleanSoFar shape (map (λ line. line.request) (taken ++ line ∷ [])) new
clean_more shape taken line old new (Illegal fault) so_far next clean = absurd clean
clean_more shape taken line old new (Done receipt) so_far next clean =
    let entry : Entry = record { request = line.request; answer = receipt.answer } in
    let grown : next.0.history ≡ entry ∷ so_far.gate.history = ap (λ (state : GateState). state.history) next.1.after in
    record {
      gate = next.0;
      fits = next.2;
      replies = so_far.replies ++ Done receipt ∷ [];
      judges = JudgesAll-more _ _ _ _ _ _ _ _ _ (requests_more taken line) refl so_far.judges next.1;
      done = All-push IsDone so_far.replies (Done receipt) so_far.done tt;
      clean = All-same (λ (one : Entry). IsCleanAnswer one.answer) next.0.history (entry ∷ so_far.gate.history) grown
          (All-cons (λ (one : Entry). IsCleanAnswer one.answer) entry so_far.gate.history clean so_far.clean);
    }

pub all_clean : (trace : Contents) (taken : List TraceLine) (shape : Shape) (core : CoreState) (count : ℕ) →
    IsCleanSoFar shape (map (λ line. line.request) taken) core → trace.lines ≡ taken → shape ≡ declared_shape trace → count ≡ core.entries →
    IsAllClean trace count
all_clean trace taken shape core count so_far same declared counted = record {
  gate = so_far.gate;
  answers = answers_all trace taken shape so_far.gate same declared
      (so_far.replies, record { judges = so_far.judges; judged = so_far.fits.kept.right.judged }, so_far.done);
  clean = so_far.clean;
  count_is = counted ∙ so_far.fits.counted;
}
