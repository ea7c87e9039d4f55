-- What is told of several faults.
use Rattle.std.proofs.Common.{◌≡◌, ℕ, ◌+◌, ◌<◌, Bool, List, [], ◌∷◌, ◌++◌, length, codes, refl, subst, sym, ap, ◌∙◌, append_assoc, append-nil, arith}
use Rattle.text_words.specs.Text.{lines}
use Rattle.source_quotes.specs.declared.meant.Meant.{Meant}
use Rattle.source_quotes.specs.FaultTexts.{TellsFault}
use Rattle.fault_lists.specs.declared.fault.Fault.{Fault}
use Rattle.fault_lists.specs.FaultLists.{ListsFaults}
use Rattle.fault_lists.specs.Messages.{count_text, TellsEach, TellsOthers, TellsFaults}

-- one more is told before the others
pub each_more : (is_painted : Bool) (file : List ℕ) (source : List (List ℕ)) (faults rest : List Fault) (fault : Fault)
    (old fed told new one each : List ℕ) → TellsFault is_painted file source fault.line fault.why one →
    fed ≡ old ++ codes "\n" → told ≡ fed ++ one → new ≡ told ++ each → TellsEach is_painted file source rest each → faults ≡ fault ∷ rest →
    (x : List ℕ) × (new ≡ old ++ x) × TellsEach is_painted file source faults x
each_more is_painted file source faults rest fault old fed told new one each tells first second third others is =
    let flat : new ≡ old ++ ((codes "\n" ++ one) ++ each) =
    third ∙ ap (λ text. text ++ each) (second ∙ ap (λ text. text ++ one) first) ∙ simp append_assoc in (
      ((codes "\n" ++ one) ++ each),
      flat,
      subst (λ some. TellsEach is_painted file source some ((codes "\n" ++ one) ++ each)) (sym is) (one, each, tells, others, refl),
    )

-- nothing is told behind a first fault that is the only one
pub none_told : (is_painted : Bool) (file : List ℕ) (source : List (List ℕ)) (faults : List Fault) (more : Bool) (old new : List ℕ) → length faults ≡ 0 →
    new ≡ old → (x : List ℕ) × (new ≡ old ++ x) × TellsOthers is_painted file source faults more x
none_told is_painted file source [] more old new none same = ([], same ∙ sym (append-nil old), refl)
none_told is_painted file source (fault ∷ faults) more old new none same = absurd (omega (arith, none))

-- several are told, and then how many
pub several_told : (is_painted : Bool) (file : List ℕ) (source : List (List ℕ)) (faults : List Fault) (more : Bool) (old told fed new each : List ℕ) (count : ℕ) →
    0 < length faults → told ≡ old ++ each → TellsEach is_painted file source faults each → fed ≡ told ++ codes "\n" →
    new ≡ fed ++ count_text count more → count ≡ length faults + 1 →
    (x : List ℕ) × (new ≡ old ++ x) × TellsOthers is_painted file source faults more x
several_told is_painted file source [] more old told fed new each count some first tells second third number = absurd (omega (arith, some))
several_told is_painted file source (fault ∷ faults) more old told fed new each count some first tells second third number =
    let flat : new ≡ old ++ (each ++ (codes "\n" ++ count_text count more)) =
    third ∙ ap (λ text. text ++ count_text count more) (second ∙ ap (λ text. text ++ codes "\n") first) ∙ simp append_assoc in (
      (each ++ (codes "\n" ++ count_text count more)),
      flat,
      (each, tells, ap (λ n. each ++ (codes "\n" ++ count_text n more)) number),
    )

-- all are told
pub all_told : (is_painted : Bool) (file : List ℕ) (meant : Meant) (text : List ℕ) (first : Fault) (list others : List Fault) (more : Bool)
    (one told behind : List ℕ) → ListsFaults meant text first others more → list ≡ others → TellsFault is_painted file (lines text) first.line first.why one →
    told ≡ one ++ behind → TellsOthers is_painted file (lines text) list more behind → TellsFaults is_painted file meant text first told
all_told is_painted file meant text first list others more one told behind lists same tells is rest = record {
  others = others;
  more = more;
  lists = lists;
  one = one;
  behind = behind;
  tells_first = tells;
  tells_others = subst (λ some. TellsOthers is_painted file (lines text) some more behind) same rest;
  told_is = is;
}
