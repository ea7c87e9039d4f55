-- A run has no refusals to tell exactly where it is clean.
use Rattle.std.proofs.Common.{◌≡◌, ℕ, ◌+◌, Bool, true, false, List, [], ◌∷◌, ◌++◌, reverse, refl}
use Rattle.std.specs.Prelude.{◌↔◌, IsTrue}
use Rattle.std.specs.Option.{option_to_list}
use Rattle.std.proofs.lemmas.List.Elements.{All-nil, All-cons, All-head, All-tail}
use Rattle.model_accesses.specs.declared.request.Request.{Request}
use Rattle.text_words.specs.Values.{Known}
use Rattle.serde_json.specs.Data.{Data}
use Rattle.model_histories.specs.declared.answer.Answer.{Answer}
use Rattle.model_histories.specs.declared.answer.Answer.TheVariants.{Refused, Unset}
use Rattle.model_histories.specs.declared.answer.Entry.{Entry}
use Rattle.model_histories.specs.Extensions.{IsCleanAnswer, IsClean}
use Rattle.race_report.specs.Refusals.{answer_told, refusals_behind, refusals_told}
use Rattle.race_report.specs.ReportText.{is_clean}
use Rattle.race_report.proofs.Reversed.{all_reversed, all_reverses}

clean_answer : (known : Known) (all : List Entry) (number : ℕ) (request : Request) (answer : Answer) (rest : List Data) → IsCleanAnswer answer →
    is_clean rest ≡ true → is_clean (option_to_list (answer_told known all number request answer) ++ rest) ≡ true
clean_answer known all number request (Refused rule witness) rest clean none = absurd clean
clean_answer known all number request Unset rest clean none = absurd clean
clean_answer known all number request answer rest clean none = none

answer_clean : (known : Known) (all : List Entry) (number : ℕ) (request : Request) (answer : Answer) (rest : List Data) →
    is_clean (option_to_list (answer_told known all number request answer) ++ rest) ≡ true → IsCleanAnswer answer × (is_clean rest ≡ true)
answer_clean known all number request (Refused rule witness) rest none = absurd cc
answer_clean known all number request Unset rest none = absurd cc
answer_clean known all number request answer rest none = (tt, none)

clean_behind : (known : Known) (all : List Entry) (before : ℕ) (rest : List Entry) → IsClean rest → is_clean (refusals_behind known all before rest) ≡ true
clean_behind known all before [] clean = refl
clean_behind known all before (entry ∷ rest) clean =
    clean_answer known all (before + 1) entry.request entry.answer (refusals_behind known all (before + 1) rest)
    (All-head (λ (one : Entry). IsCleanAnswer one.answer) entry rest clean)
    (clean_behind known all (before + 1) rest (All-tail (λ (one : Entry). IsCleanAnswer one.answer) entry rest clean))

behind_clean : (known : Known) (all : List Entry) (before : ℕ) (rest : List Entry) → is_clean (refusals_behind known all before rest) ≡ true → IsClean rest
behind_clean known all before [] none = All-nil (λ (one : Entry). IsCleanAnswer one.answer)
behind_clean known all before (entry ∷ rest) none =
    let cases = answer_clean known all (before + 1) entry.request entry.answer (refusals_behind known all (before + 1) rest) none in
    All-cons (λ (one : Entry). IsCleanAnswer one.answer) entry rest cases.0 (behind_clean known all (before + 1) rest cases.1)

-- the report of a run tells that it is clean exactly where its history is, of which these are the entries oldest first
pub clean_told : (known : Known) (entries : List Entry) → IsTrue (is_clean (refusals_told known entries)) ↔ IsClean (reverse entries)
clean_told known entries = (
  λ none. all_reverses (λ (one : Entry). IsCleanAnswer one.answer) entries (behind_clean known entries 0 entries none),
  λ clean. clean_behind known entries 0 entries (all_reversed (λ (one : Entry). IsCleanAnswer one.answer) entries clean),
)

same_test : (one other : Bool) {P : Type 0} → IsTrue one ↔ P → IsTrue other ↔ P → one ≡ other
same_test true true first second = refl
same_test false false first second = refl
same_test true false first second = let e = second.1 (first.0 refl) in cc
same_test false true first second = let e = first.1 (second.0 refl) in cc

pub told_clean : (known : Known) (entries : List Entry) (clean : Bool) → IsTrue clean ↔ IsClean (reverse entries) → clean ≡ is_clean (refusals_told known entries)
told_clean known entries clean tells = same_test clean (is_clean (refusals_told known entries)) tells (clean_told known entries)

none_in : (refusals : List Data) → is_clean refusals ≡ true → [] ≡ refusals
none_in [] none = refl
none_in (refusal ∷ refusals) none = absurd cc

-- the run is clean, so it has no refusals to tell
pub none_told : (known : Known) (entries : List Entry) (clean : Bool) → IsTrue clean ↔ IsClean (reverse entries) → clean ≡ true → [] ≡ refusals_told known entries
none_told known entries clean tells is = none_in (refusals_told known entries) ((clean_told known entries).1 (tells.0 is))
