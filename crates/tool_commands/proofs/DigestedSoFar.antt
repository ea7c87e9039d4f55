-- The requests of a trace judged without a history, and what is kept of their entries.
use Rattle.std.proofs.Common.{◌≡◌, ◌<◌, ◌≤◌, ℕ, true, List, [], ◌∷◌, ◌++◌, map, reverse, refl, ap, sym, subst, ◌∙◌, arith}
use Rattle.std.specs.List.{All}
use Rattle.std.proofs.lemmas.List.{length-reverse, reverse-append, reverse-reverse}
use Rattle.std.proofs.lemmas.List.Elements.{All-nil, All-push}
use Rattle.model_accesses.specs.declared.request.Request.{Request}
use Rattle.text_words.specs.declared.value.TraceLine.{TraceLine}
use Rattle.text_words.specs.Values.{Contents}
use Rattle.model_histories.specs.declared.answer.Entry.{Entry}
use Rattle.model_histories.specs.declared.reply.Receipt.{Receipt}
use Rattle.model_histories.specs.declared.reply.Reply.{Reply}
use Rattle.model_histories.specs.declared.reply.Reply.TheVariants.{Done}
use Rattle.model_histories.specs.Entries.{Entries}
use Rattle.model_histories.specs.Replies.{Judges, JudgesAll}
use Rattle.model_histories.specs.Shapes.{Shape, most_entries}
use Rattle.model_histories.specs.States.{GateState, opening}
use Rattle.model_races.specs.Judged.{IsJudged}
use Rattle.race_gate.specs.Cores.{CoreState, IsCoreOf}
use Rattle.race_gate.proofs.Lists.{JudgesAll-more}
use Rattle.race_pairs.specs.declared.digest.Digest.{Digest}
use Rattle.race_pairs.specs.Digests.{IsDigest, IsNext, IsNextOf, is_of_own_lines, HasOwnLine}
use Rattle.command_streams.specs.Streams.{declared_shape}
use Rattle.command_streams.proofs.TakenLines.{requests_more}
use Rattle.tool_commands.specs.Replays.{IsDone}
use Rattle.tool_commands.specs.Digested.{IsDigested}
use Rattle.tool_commands.proofs.Answering.{answers_all}

-- the lines of these entries are not behind the last one
abbrev pub AreBelow : ℕ → List Entry → Type 0
AreBelow last told = All (λ entry. entry.request.line ≤ last) told

-- some gate that fits the core has answered these requests, and the digest is that of its entries
pub record IsDigestedSoFar (shape : Shape) (requests : List Request) (last : ℕ) (core : CoreState) (digest : Digest) : Type 0 where
  pub gate : GateState
  pub fits : IsCoreOf core gate
  pub limit : gate.limit ≡ most_entries
  pub replies : List Reply
  pub judges : JudgesAll (opening shape most_entries) requests replies gate
  pub done : All IsDone replies
  pub digest_is : IsDigest (reverse gate.history) digest
  pub below : is_of_own_lines digest ≡ true → AreBelow last (reverse gate.history)

pub digested_at_first : (shape : Shape) (core : CoreState) (digest : Digest) → IsCoreOf core (opening shape most_entries) → IsDigest [] digest →
    IsDigestedSoFar shape [] 0 core digest
digested_at_first shape core digest fits is = record {
  gate = opening shape most_entries;
  fits = fits;
  limit = refl;
  replies = [];
  judges = refl;
  done = All-nil IsDone;
  digest_is = is;
  below = λ own. All-nil (λ (entry : Entry). entry.request.line ≤ 0);
}

-- the entry that a receipt is of
entry_by : Request → Receipt → Entry
entry_by request receipt = record { request = request; answer = receipt.answer }

pub is_next : (gate next : GateState) (core : CoreState) (request : Request) (receipt : Receipt) (entry : Entry) → Judges gate request (Done receipt) next →
    IsCoreOf core next → gate.limit ≡ most_entries → entry ≡ record { request = receipt.request; answer = receipt.answer } → IsNext (reverse gate.history) entry
is_next gate next core request receipt entry judges fits limit is = (
  next.shape,
  subst (IsJudged next.shape) grown fits.kept.right.judged,
  (let low = judges.faultless.below in omega (arith, low, limit, length-reverse gate.history)),
)
  where
    grown : next.history ≡ entry ∷ reverse (reverse gate.history)
    grown =
        ap (λ (state : GateState). state.history) judges.after ∙
        (ap (λ (r : Request). record { request = r; answer = receipt.answer } ∷ gate.history) (sym judges.asked) ∙
        (ap (λ (e : Entry). e ∷ gate.history) (sym is) ∙ ap (λ (h : Entries). entry ∷ h) (sym (reverse-reverse gate.history))))

-- the next line is a line of its own where it lies behind the last one
pub own_line : (digest : Digest) (last : ℕ) (told : List Entry) (entry : Entry) → (is_of_own_lines digest ≡ true → AreBelow last told) →
    (is_of_own_lines digest ≡ true → last < entry.request.line) → is_of_own_lines digest ≡ true → HasOwnLine told entry
own_line digest last told entry below behind own k d lt = let le = below own k d lt in let less = behind own in omega arith

pub below_more : (last : ℕ) (told : List Entry) (entry : Entry) → AreBelow last told → last < entry.request.line → AreBelow entry.request.line (told ++ entry ∷ [])
below_more last told entry below less =
    All-push (λ (one : Entry). one.request.line ≤ entry.request.line) told entry (λ k d lt. (let old = below k d lt in omega arith)) (omega arith)

-- the line of the entry is that of the request
line_answered : (gate next : GateState) (request : Request) (receipt : Receipt) (entry : Entry) → Judges gate request (Done receipt) next →
    entry ≡ record { request = receipt.request; answer = receipt.answer } → entry.request.line ≡ request.line
line_answered gate next request receipt entry judges is = ap (λ (e : Entry). e.request.line) is ∙ ap (λ (r : Request). r.line) judges.asked

pub digested_next : (shape : Shape) (requests : List Request) (request : Request) (last : ℕ) (old new : CoreState) (before : Digest) (receipt : Receipt) (entry : Entry) →
    (so_far : IsDigestedSoFar shape requests last old before) → (next : GateState) → Judges so_far.gate request (Done receipt) next → IsCoreOf new next →
    entry ≡ record { request = receipt.request; answer = receipt.answer } → (is_of_own_lines before ≡ true → last < request.line) →
    IsNextOf before (reverse so_far.gate.history) entry
digested_next shape requests request last old new before receipt entry so_far next judges fits is behind = (
  is_next so_far.gate next new request receipt entry judges fits so_far.limit is,
  own_line before last (reverse so_far.gate.history) entry so_far.below
      (λ own. subst (λ (n : ℕ). last < n) (sym (line_answered so_far.gate next request receipt entry judges is)) (behind own)),
)

pub digested_more : (shape : Shape) (taken : List TraceLine) (line : TraceLine) (last : ℕ) (old new : CoreState) (before after : Digest) (receipt : Receipt) (entry : Entry) →
    (so_far : IsDigestedSoFar shape (map (λ line. line.request) taken) last old before) → (next : GateState) → Judges so_far.gate line.request (Done receipt) next → IsCoreOf new next →
    entry ≡ record { request = receipt.request; answer = receipt.answer } → (is_of_own_lines before ≡ true → last < line.request.line) →
    is_of_own_lines after ≡ is_of_own_lines before →
    ((told : List Entry) → IsDigest told before → IsNextOf before told entry → IsDigest (told ++ entry ∷ []) after) →
    IsDigestedSoFar shape (map (λ line. line.request) (taken ++ line ∷ [])) line.request.line new after
digested_more shape taken line last old new before after receipt entry so_far next judges fits is behind own_still adds = record {
  gate = next;
  fits = fits;
  limit = ap (λ (state : GateState). state.limit) judges.after ∙ so_far.limit;
  replies = so_far.replies ++ Done receipt ∷ [];
  judges = JudgesAll-more _ _ _ _ _ _ _ _ _ (requests_more taken line) refl so_far.judges judges;
  done = All-push IsDone so_far.replies (Done receipt) so_far.done tt;
  digest_is = subst (λ (told : List Entry). IsDigest told after) (sym turned)
      (adds (reverse so_far.gate.history) so_far.digest_is
      (digested_next shape (map (λ line. line.request) taken) line.request last old new before receipt entry so_far next judges fits is behind));
  below = λ own. (let before_own = sym own_still ∙ own in
      subst (λ (n : ℕ). AreBelow n (reverse next.history)) line_is (subst (AreBelow entry.request.line) (sym turned)
      (below_more last (reverse so_far.gate.history) entry (so_far.below before_own) (subst (λ (n : ℕ). last < n) (sym line_is) (behind before_own)))));
}
  where
    line_is : entry.request.line ≡ line.request.line
    line_is = line_answered so_far.gate next line.request receipt entry judges is

    turned : reverse next.history ≡ reverse so_far.gate.history ++ entry ∷ []
    turned =
        ap reverse (ap (λ (state : GateState). state.history) judges.after ∙
        (ap (λ (r : Request). record { request = r; answer = receipt.answer } ∷ so_far.gate.history) (sym judges.asked) ∙
        ap (λ (e : Entry). e ∷ so_far.gate.history) (sym is))) ∙ reverse-append (entry ∷ []) so_far.gate.history

pub all_digested : (trace : Contents) (taken : List TraceLine) (shape : Shape) (last : ℕ) (core : CoreState) (digest : Digest) →
    IsDigestedSoFar shape (map (λ line. line.request) taken) last core digest → trace.lines ≡ taken → shape ≡ declared_shape trace → IsDigested trace digest
all_digested trace taken shape last core digest so_far same declared = record {
  gate = so_far.gate;
  answers = answers_all trace taken shape so_far.gate same declared
      (so_far.replies, record { judges = so_far.judges; judged = so_far.fits.kept.right.judged }, so_far.done);
  digest_is = so_far.digest_is;
}
