-- The status of a run: 0 exactly where nothing was refused in it.
use Rattle.std.proofs.Common.{◌≡◌, Bool, true, false, List, [], ◌∷◌, reverse, refl}
use Rattle.std.specs.List.{list_any}
use Rattle.std.proofs.lemmas.List.Elements.{All-nil, All-cons, All-head, All-tail}
use Rattle.model_histories.specs.declared.answer.Answer.{Answer}
use Rattle.model_histories.specs.declared.answer.Answer.TheVariants.{Refused, Unset}
use Rattle.model_histories.specs.declared.answer.Entry.{Entry}
use Rattle.model_histories.specs.Extensions.{IsCleanAnswer, IsClean}
use Rattle.race_report.proofs.Reversed.{all_reversed, all_reverses}
use Rattle.verdict_lines.specs.VerdictText.{is_refused}
use Rattle.tool_commands.specs.Outcomes.{refusal_status}

clean_answer : (answer : Answer) → is_refused answer ≡ false → IsCleanAnswer answer
clean_answer (Refused rule witness) none = absurd cc
clean_answer Unset none = absurd cc
clean_answer answer none = tt

all_clean : (entries : List Entry) → list_any (λ (entry : Entry). is_refused entry.answer) entries ≡ false → IsClean entries
all_clean [] none = All-nil (λ (entry : Entry). IsCleanAnswer entry.answer)
all_clean (entry ∷ entries) none = by (is_refused entry.answer) refl (all_clean entries)
  where
    by : (refused : Bool) → is_refused entry.answer ≡ refused → (list_any (λ (one : Entry). is_refused one.answer) entries ≡ false → IsClean entries) →
        IsClean (entry ∷ entries)
    by true is rest = absurd cc
    by false is rest = All-cons (λ (one : Entry). IsCleanAnswer one.answer) entry entries (clean_answer entry.answer is) (rest cc)

none_refused : (refused : Bool) (entries : List Entry) → list_any (λ (entry : Entry). is_refused entry.answer) entries ≡ refused → refusal_status entries ≡ 0 → refused ≡ false
none_refused false entries is status = refl
none_refused true entries is status = absurd cc

-- at status 0 nothing was refused
pub clean_status : (entries : List Entry) → refusal_status entries ≡ 0 → IsClean (reverse entries)
clean_status entries status =
    all_reverses (λ (one : Entry). IsCleanAnswer one.answer) entries
    (all_clean entries (none_refused (list_any (λ (entry : Entry). is_refused entry.answer) entries) entries refl status))

refused_none : (answer : Answer) → IsCleanAnswer answer → is_refused answer ≡ false
refused_none (Refused rule witness) clean = absurd clean
refused_none Unset clean = absurd clean
refused_none answer clean = refl

none_any : (entries : List Entry) → IsClean entries → list_any (λ (entry : Entry). is_refused entry.answer) entries ≡ false
none_any [] clean = refl
none_any (entry ∷ entries) clean =
    rw (refused_none entry.answer (All-head (λ (one : Entry). IsCleanAnswer one.answer) entry entries clean))
    (none_any entries (All-tail (λ (one : Entry). IsCleanAnswer one.answer) entry entries clean))

-- the status of a run in which nothing was refused, and that of any other
pub status_clean : (entries : List Entry) → IsClean (reverse entries) → 0 ≡ refusal_status entries
status_clean entries clean = rw (none_any entries (all_reversed (λ (entry : Entry). IsCleanAnswer entry.answer) entries clean)) refl

pub status_refused : (entries : List Entry) → (IsClean (reverse entries) → ⊥) → 1 ≡ refusal_status entries
status_refused entries refused = by (list_any (λ (entry : Entry). is_refused entry.answer) entries) refl
  where
    by : (some : Bool) → list_any (λ (entry : Entry). is_refused entry.answer) entries ≡ some → 1 ≡ refusal_status entries
    by true is = rw is refl
    by false is = absurd (refused (all_reverses (λ (entry : Entry). IsCleanAnswer entry.answer) entries (all_clean entries is)))
