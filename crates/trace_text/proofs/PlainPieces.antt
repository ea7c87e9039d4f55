-- Plain lines of requests, read behind the lines of a text.
use Rattle.std.proofs.Common.{◌≡◌, ◌≢◌, ℕ, ◌+◌, ◌≤◌, ◌∷◌, ◌++◌, [], List, length, length-append, refl, ap, sym, ◌∙◌, subst, arith, append_assoc}
use Rattle.std.proofs.lemmas.List.{append-nil, append_cancel_right}
use Rattle.std.proofs.lemmas.Grind.{flat_map-append}
use Rattle.text_words.specs.declared.fault.Cause.{Cause}
use Rattle.text_words.specs.declared.value.TraceLine.{TraceLine}
use Rattle.text_words.specs.Text.{lines}
use Rattle.text_words.specs.Limits.{most_lines}
use Rattle.text_words.specs.Values.{Known, Contents}
use Rattle.trace_text.specs.declared.pieces.BegunTrace.{BegunTrace}
use Rattle.trace_text.specs.Grammar.{LinesMean}
use Rattle.trace_text.specs.Faults.{LinesFault}
use Rattle.trace_text.specs.Drafts.{so_far, IsTold}
use Rattle.trace_text.specs.Plain.{IsSettled}
use Rattle.trace_text.specs.Printing.{entry_text, OfRequest, requests_text}
use Rattle.trace_text.specs.Pieces.{AreWholeLines, IsBegun, ReadsPlain, TakesPlain, TakesFront}
use Rattle.trace_text.proofs.Kept.{kept_of_text}
use Rattle.trace_text.proofs.WholeLines.{whole_none, whole_both, whole_to_feed, means_joined, faults_joined, text_behind, lines_counted}

-- ---- one line

module _ (at : ℕ) (before next : Contents) (text rest : List ℕ) (told : IsTold at before text rest next) where
  abbrev front : List ℕ
  front = told.front ++ 10 ∷ []

  split : text ≡ front ++ rest
  split = told.split ∙ sym (append_assoc told.front (10 ∷ []) rest)

  whole : AreWholeLines front
  whole = whole_to_feed told.front

  one : lines front ≡ told.taken.0 ∷ []
  one = append_cancel_right (lines front) (told.taken.0 ∷ []) (lines rest) (sym (whole rest) ∙ ap lines (sym split) ∙ told.taken.1)

  means : LinesMean at before (lines front) next
  means = subst (λ (ls : List (List ℕ)). LinesMean at before ls next) (sym one) (told.taken.3, told.taken.4, told.taken.5)

  plain : IsSettled before.known → front ≡ requests_text before.known (told.line ∷ [])
  plain settled = ap (λ (bytes : List ℕ). bytes ++ 10 ∷ []) (told.exact settled) ∙ sym (append-nil (entry_text before.known (OfRequest told.line) ++ 10 ∷ []))

-- no line is read yet
pub reads_none : (at : ℕ) (before : Contents) (text : List ℕ) → at ≤ most_lines → ReadsPlain at before text at text before
reads_none at before text few = record {
  front = [];
  split = refl;
  whole = whole_none;
  means = refl;
  count = omega arith;
  few = few;
  requests = [];
  added = ap (λ (ls : List TraceLine). so_far before.known ls) (sym (append-nil before.lines));
  exact = λ settled. refl;
}

-- and one more
pub reads_more : (at last : ℕ) (first mid after : Contents) (text between rest : List ℕ) → ReadsPlain at first text last between mid
    → IsTold (last + 1) mid between rest after → ReadsPlain at first text (last + 1) rest after
reads_more at last first mid after text between rest reads told =
    let line = front (last + 1) mid after between rest told in
    let is_whole = whole (last + 1) mid after between rest told in
    let is_line = one (last + 1) mid after between rest told in
    let both : lines (reads.front ++ line) ≡ lines reads.front ++ lines line = reads.whole line in
    let known : mid.known ≡ first.known = ap (λ (c : Contents). c.known) reads.added in record {
      front = reads.front ++ line;
      split = reads.split ∙ ap (λ (bytes : List ℕ). reads.front ++ bytes) (split (last + 1) mid after between rest told) ∙ sym (append_assoc reads.front line rest);
      whole = whole_both reads.front line reads.whole is_whole;
      means = subst (λ (ls : List (List ℕ)). LinesMean (at + 1) first ls after) (sym both)
          (means_joined (at + 1) (last + 1) first mid after (lines reads.front) (lines line) (omega (arith, reads.count)) reads.means
          (means (last + 1) mid after between rest told));
      count = omega (arith, reads.count, ap length both, length-append (lines reads.front) (lines line), ap length is_line);
      few = told.taken.4.0;
      requests = reads.requests ++ told.line ∷ [];
      added = told.added ∙ ap (λ (c : Contents). so_far c.known (c.lines ++ told.line ∷ [])) reads.added
          ∙ ap (λ (ls : List TraceLine). so_far first.known ls) (append_assoc first.lines reads.requests (told.line ∷ []));
      exact = λ settled.
          ap (λ (bytes : List ℕ). bytes ++ line) (reads.exact settled)
          ∙ ap (λ (bytes : List ℕ). requests_text first.known reads.requests ++ bytes)
          (plain (last + 1) mid after between rest told (subst IsSettled (sym known) settled) ∙ ap (λ (k : Known). requests_text k (told.line ∷ [])) known)
          ∙ sym (flat_map-append (λ (request : TraceLine). entry_text first.known (OfRequest request) ++ 10 ∷ []) reads.requests (told.line ∷ []));
    }

some_behind : (front behind : List TraceLine) → front ≢ [] → front ++ behind ≢ []
some_behind [] behind some = absurd (some refl)
some_behind (first ∷ front) behind some = λ e. cc

-- what the lines of the rest mean or have for a fault, those of the text do
module _ (at last : ℕ) (before after : Contents) (text rest : List ℕ) (reads : ReadsPlain at before text last rest after) where
  both : lines text ≡ lines reads.front ++ lines rest
  both = ap lines reads.split ∙ reads.whole rest

  counted : last + 1 ≡ (at + 1) + length (lines reads.front)
  counted = omega (arith, reads.count)

  pub reads_count : last + length (lines rest) ≡ at + length (lines text)
  reads_count = omega (arith, reads.count, ap length both, length-append (lines reads.front) (lines rest))

  pub reads_means : (contents : Contents) → LinesMean (last + 1) after (lines rest) contents → LinesMean (at + 1) before (lines text) contents
  reads_means contents means =
      subst (λ (ls : List (List ℕ)). LinesMean (at + 1) before ls contents) (sym both)
      (means_joined (at + 1) (last + 1) before after contents (lines reads.front) (lines rest) counted reads.means means)

  pub reads_faults : (bad : ℕ) (cause : Cause) → LinesFault (last + 1) after (lines rest) bad cause → LinesFault (at + 1) before (lines text) bad cause
  reads_faults bad cause fault =
      subst (λ (ls : List (List ℕ)). LinesFault (at + 1) before ls bad cause) (sym both)
      (faults_joined (at + 1) (last + 1) before after (lines reads.front) (lines rest) bad cause counted reads.means fault)

  pub reads_some : before.lines ≢ [] → after.lines ≢ []
  reads_some some = subst (λ (ls : List TraceLine). ls ≢ []) (sym (ap (λ (c : Contents). c.lines) reads.added)) (some_behind before.lines reads.requests some)

-- ---- behind the lines of a text

settled_begun : {A : Type 0} (done : List ℕ) (begun : BegunTrace A) → IsBegun done begun → IsSettled begun.draft.names
settled_begun done begun is = let kept = kept_of_text done (so_far begun.draft.names begun.draft.lines) is.means in (kept.numbered, kept.not_empty)

pub takes_front : {A : Type 0} (old new : BegunTrace A) (text rest : List ℕ) → ((done : List ℕ) × IsBegun done old)
    → ReadsPlain old.at (so_far old.draft.names old.draft.lines) text new.at rest (so_far new.draft.names new.draft.lines) → TakesFront old text rest new
takes_front {A} old new text rest some reads = record {
  front = reads.front;
  split = reads.split;
  takes = record {
    begun = λ done begun. record {
      whole = whole_both done reads.front begun.whole reads.whole;
      means = text_behind done reads.front old.at before after begun.whole begun.means begun.count reads.means;
      count = lines_counted done reads.front old.at new.at begun.whole begun.count reads.count;
      few = reads.few;
      some = subst (λ (ls : List TraceLine). ls ≢ []) (sym added) (some_behind old.draft.lines reads.requests begun.some);
    };
    known = ap (λ (c : Contents). c.known) reads.added;
    requests = reads.requests;
    added = added;
    plain = reads.exact (settled_begun some.0 old some.1);
  };
}
  where
    before : Contents
    before = so_far old.draft.names old.draft.lines

    after : Contents
    after = so_far new.draft.names new.draft.lines

    added : new.draft.lines ≡ old.draft.lines ++ reads.requests
    added = ap (λ (c : Contents). c.lines) reads.added

-- ---- more lines

pub takes_none : {A : Type 0} (old : BegunTrace A) (text : List ℕ) → TakesFront old text text old
takes_none old text = record {
  front = [];
  split = refl;
  takes = record {
    begun = λ done begun. subst (λ (bytes : List ℕ). IsBegun bytes old) (sym (append-nil done)) begun;
    known = refl;
    requests = [];
    added = sym (append-nil old.draft.lines);
    plain = refl;
  };
}

pub takes_both : {A : Type 0} (old mid new : BegunTrace A) (front line : List ℕ) → TakesPlain old front mid → TakesPlain mid line new → TakesPlain old (front ++ line) new
takes_both {A} old mid new front line first then = record {
  begun = λ done begun. subst (λ (bytes : List ℕ). IsBegun bytes new) (append_assoc done front line) (then.begun (done ++ front) (first.begun done begun));
  known = then.known ∙ first.known;
  requests = first.requests ++ then.requests;
  added = then.added ∙ ap (λ (ls : List TraceLine). ls ++ then.requests) first.added ∙ append_assoc old.draft.lines first.requests then.requests;
  plain = ap (λ (bytes : List ℕ). bytes ++ line) first.plain
      ∙ ap (λ (bytes : List ℕ). requests_text old.draft.names first.requests ++ bytes) (then.plain ∙ ap (λ (known : Known). requests_text known then.requests) first.known)
      ∙ sym (flat_map-append (λ (request : TraceLine). entry_text old.draft.names (OfRequest request) ++ 10 ∷ []) first.requests then.requests);
}

pub takes_more : {A : Type 0} (old mid new : BegunTrace A) (text between rest : List ℕ) → TakesFront old text between mid → TakesFront mid between rest new
    → TakesFront old text rest new
takes_more {A} old mid new text between rest first then = record {
  front = first.front ++ then.front;
  split = first.split ∙ ap (λ (bytes : List ℕ). first.front ++ bytes) then.split ∙ sym (append_assoc first.front then.front rest);
  takes = takes_both old mid new first.front then.front first.takes then.takes;
}

-- bytes that were read stay so
pub some_begun : {A : Type 0} (old new : BegunTrace A) (text rest : List ℕ) → ((done : List ℕ) × IsBegun done old) → TakesFront old text rest new
    → (done : List ℕ) × IsBegun done new
some_begun old new text rest some takes = (some.0 ++ takes.front, takes.takes.begun some.0 some.1)
