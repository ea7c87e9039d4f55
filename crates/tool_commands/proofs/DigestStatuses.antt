-- The status by how many refusals were counted.
use Rattle.std.proofs.Common.{◌≡◌, ◌<◌, ℕ, Bool, true, false, List, [], ◌∷◌, reverse, Option, Some, None, refl, sym, ◌∙◌, subst, arith}
use Rattle.std.specs.Prelude.{is_some, option_and_then}
use Rattle.std.specs.List.{All, list_any}
use Rattle.std.proofs.lemmas.List.Elements.{All-nil, All-cons, All-head, All-tail}
use Rattle.race_report.proofs.Reversed.{all_reversed}
use Rattle.model_accesses.specs.declared.asked.Asked.{Asked}
use Rattle.model_accesses.specs.declared.request.Act.{Act}
use Rattle.model_accesses.specs.declared.request.Act.TheVariants.{Read, Write, Bump, Put, Get}
use Rattle.model_accesses.specs.Asking.{access_asked}
use Rattle.model_histories.specs.declared.answer.Answer.{Answer}
use Rattle.model_histories.specs.declared.answer.Answer.TheVariants.{Refused, Unset}
use Rattle.model_histories.specs.declared.answer.Entry.{Entry}
use Rattle.model_histories.specs.Entries.{Entries}
use Rattle.model_histories.specs.Shapes.{Shape}
use Rattle.model_histories.specs.Legal.{Belongs, IsLegal}
use Rattle.race_pairs.specs.declared.digest.Digest.{Digest}
use Rattle.race_pairs.specs.Refusals.{refusal_asked, is_refusal, refusals_among}
use Rattle.race_pairs.specs.Digests.{IsDigest}
use Rattle.verdict_lines.specs.VerdictText.{is_refused}
use Rattle.tool_commands.specs.Outcomes.{refusal_status}

abbrev IsAnswered : Entry → Type 0
IsAnswered entry = Belongs entry.request.act entry.answer

-- an answer that is no refusal tells none
told_none : (line : ℕ) (answer : Answer) (found : Option Asked) → is_refused answer ≡ false → is_some (option_and_then (refusal_asked line answer) found) ≡ false
told_none line answer None e = refl
told_none line (Refused rule witness) (Some asked) e = absurd (cc)
told_none line Unset (Some asked) e = absurd (cc)
told_none line answer (Some asked) e = refl

-- one that is a refusal tells it
told_some : (line : ℕ) (act : Act) (answer : Answer) → Belongs act answer → is_refused answer ≡ true →
    is_some (option_and_then (refusal_asked line answer) (access_asked act)) ≡ true
told_some line (Read cell) (Refused rule witness) b e = refl
told_some line (Write cell value) (Refused rule witness) b e = refl
told_some line (Bump cell value) (Refused rule witness) b e = refl
told_some line (Put reducer value) (Refused rule witness) b e = refl
told_some line (Get reducer) (Refused rule witness) b e = refl
told_some line (Get reducer) Unset b e = refl
told_some line act (Refused rule witness) b e = absurd b
told_some line act Unset b e = absurd b
told_some line act answer b e = absurd (cc)

same_refused : (entry : Entry) → IsAnswered entry → is_refusal entry ≡ is_refused entry.answer
same_refused entry b = by (is_refused entry.answer) refl
  where
    by : (refused : Bool) → is_refused entry.answer ≡ refused → is_refusal entry ≡ is_refused entry.answer
    by true e = told_some entry.request.line entry.request.act entry.answer b e ∙ sym e
    by false e = told_none entry.request.line entry.answer (access_asked entry.request.act) e ∙ sym e

all_answers : (shape : Shape) (entries : Entries) → IsLegal shape entries → All IsAnswered entries
all_answers shape [] l = All-nil IsAnswered
all_answers shape (entry ∷ entries) l = All-cons IsAnswered entry entries l.1.belongs (all_answers shape entries l.0)

-- a count by the one test, and whether some passes the other
counted : (told : List Entry) → All IsAnswered told → (list_any (λ (entry : Entry). is_refused entry.answer) told ≡ true → 0 < refusals_among told) ×
    (list_any (λ (entry : Entry). is_refused entry.answer) told ≡ false → refusals_among told ≡ 0)
counted [] all = (λ e. absurd (cc), λ e. refl)
counted (entry ∷ told) all = by (is_refused entry.answer) refl (counted told (All-tail IsAnswered entry told all))
  where
    same : is_refusal entry ≡ is_refused entry.answer
    same = same_refused entry (All-head IsAnswered entry told all)

    by : (refused : Bool) → is_refused entry.answer ≡ refused →
        (list_any (λ (one : Entry). is_refused one.answer) told ≡ true → 0 < refusals_among told) ×
        (list_any (λ (one : Entry). is_refused one.answer) told ≡ false → refusals_among told ≡ 0) →
        (list_any (λ (one : Entry). is_refused one.answer) (entry ∷ told) ≡ true → 0 < refusals_among (entry ∷ told)) ×
        (list_any (λ (one : Entry). is_refused one.answer) (entry ∷ told) ≡ false → refusals_among (entry ∷ told) ≡ 0)
    by true e rest = (λ some. rw (same ∙ e) (omega arith), λ none. absurd (cc))
    by false e rest = (λ some. rw (same ∙ e) (rest.0 (rw e at some)), λ none. rw (same ∙ e) (rest.1 (rw e at none)))

status_by : (told : List Entry) → All IsAnswered told → (some : Bool) → list_any (λ (entry : Entry). is_refused entry.answer) told ≡ some →
    ((refusals_among told ≡ 0) → refusal_status told ≡ 0) × ((0 < refusals_among told) → refusal_status told ≡ 1)
status_by told all true e = (λ zero. absurd (let more = (counted told all).0 e in omega (arith, zero, more)), λ more. rw e refl)
status_by told all false e = (λ zero. rw e refl, λ more. absurd (let zero = (counted told all).1 e in omega (arith, zero, more)))

-- the status of the entries of a digest
pub digest_clean : (told : List Entry) (digest : Digest) → IsDigest told digest → digest.refusals ≡ 0 → refusal_status told ≡ 0
digest_clean told digest is zero =
    (status_by told (all_reversed IsAnswered told (all_answers is.legal.0 (reverse told) is.legal.1)) _ refl).0 (sym is.refusals ∙ zero)

pub digest_raced : (told : List Entry) (digest : Digest) → IsDigest told digest → 0 < digest.refusals → refusal_status told ≡ 1
digest_raced told digest is more =
    (status_by told (all_reversed IsAnswered told (all_answers is.legal.0 (reverse told) is.legal.1)) _ refl).1 (subst (λ n. 0 < n) is.refusals more)
