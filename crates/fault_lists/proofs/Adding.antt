-- Faults that are told behind others.
use Rattle.std.proofs.Common.{◌≡◌, ℕ, ◌-◌, ◌<◌, Bool, true, false, List, [], ◌∷◌, ◌++◌, sym, subst, ap, ◌∙◌, append_assoc, append-nil}
use Rattle.text_words.specs.Text.{lines}
use Rattle.std.specs.Prelude.{Option, Some, None, MatchOption}
use Rattle.source_quotes.specs.declared.meant.Meant.{Meant}
use Rattle.source_quotes.specs.Lines.{line_in}
use Rattle.fault_lists.specs.declared.fault.Fault.{Fault}
use Rattle.fault_lists.specs.Doubts.{leaves_doubt, lost_by, follows}
use Rattle.fault_lists.specs.FaultLists.{most_told, most_left_out, HasMeaning, HasFault, blanked, Remainder, all_of, behind_passed, behind_told, Lists, Adds, ListsBehind, ListsFaults}
use Rattle.fault_lists.specs.FaultLists.Lists.{whole, unread, passed, full, last, told}

pub found_none : (found : Option Fault) (meant : Meant) (text : List ℕ) → MatchOption found (HasMeaning meant text) (HasFault meant text) →
    found ≡ None → HasMeaning meant text
found_none found meant text means is = subst (λ some. MatchOption some (HasMeaning meant text) (HasFault meant text)) is means

pub found_some : (found : Option Fault) (meant : Meant) (text : List ℕ) (fault : Fault) → MatchOption found (HasMeaning meant text) (HasFault meant text) →
    found ≡ Some fault → HasFault meant text fault
found_some found meant text fault has is = subst (λ some. MatchOption some (HasMeaning meant text) (HasFault meant text)) is has

nothing_more : (before behind : List Fault) → behind ≡ before → behind ≡ before ++ []
nothing_more before behind same = same ∙ sym (append-nil before)

-- what is left means something
pub adds_whole : (meant : Meant) (source : List (List ℕ)) (rest : Remainder) (before behind : List Fault) → HasMeaning meant rest.text → behind ≡ before →
    Adds meant source rest before behind false
adds_whole meant source rest before behind means same =
    record { told = []; behind_is = nothing_more before behind same; lists = whole means }

-- it is read no more
pub adds_unread : (meant : Meant) (source : List (List ℕ)) (rest : Remainder) (before behind : List Fault) (fault : Fault) → rest.looks ≡ 0 →
    HasFault meant rest.text fault → behind ≡ before → Adds meant source rest before behind true
adds_unread meant source rest before behind fault none has same =
    record { told = []; behind_is = nothing_more before behind same; lists = unread fault has none }

-- a fault is passed over
pub adds_passed : (meant : Meant) (source : List (List ℕ)) (rest : Remainder) (text : List ℕ) (lost : List (List ℕ)) (before behind : List Fault)
    (more : Bool) (fault : Fault) → HasFault meant rest.text fault → follows rest.lost (line_in source fault.line) fault.why ≡ true → 0 < rest.looks →
    text ≡ blanked fault.line rest.text → lost ≡ rest.lost ++ lost_by meant (line_in source fault.line) →
    Adds meant source (record { looks = rest.looks - 1; left = rest.left; text = text; lost = lost }) before behind more →
    Adds meant source rest before behind more
adds_passed meant source rest text lost before behind more fault has following some text_is lost_is adds =
    record {
      told = adds.told;
      behind_is = adds.behind_is;
      lists = passed fault has following some
          (subst (λ names. Lists meant source (record (behind_passed meant source fault rest) { lost = names }) adds.told more) lost_is
          (subst (λ now. Lists meant source (record { looks = rest.looks - 1; left = rest.left; text = now; lost = lost }) adds.told more) text_is adds.lists));
    }

-- one more is not told
pub adds_full : (meant : Meant) (source : List (List ℕ)) (rest : Remainder) (before behind : List Fault) (fault : Fault) → HasFault meant rest.text fault →
    follows rest.lost (line_in source fault.line) fault.why ≡ false → 0 < rest.looks → rest.left ≡ 0 → behind ≡ before →
    Adds meant source rest before behind true
adds_full meant source rest before behind fault has own some none same =
    record { told = []; behind_is = nothing_more before behind same; lists = full fault has own some none }

-- behind this one all is in doubt
pub adds_last : (meant : Meant) (source : List (List ℕ)) (rest : Remainder) (before behind : List Fault) (fault : Fault) → HasFault meant rest.text fault →
    follows rest.lost (line_in source fault.line) fault.why ≡ false → 0 < rest.looks → 0 < rest.left →
    leaves_doubt meant source fault.line fault.why ≡ true → behind ≡ before ++ fault ∷ [] → Adds meant source rest before behind false
adds_last meant source rest before behind fault has own some room doubt grown =
    record { told = fault ∷ []; behind_is = grown; lists = last has own some room doubt }

-- one more is told, and what is behind it
pub adds_told : (meant : Meant) (source : List (List ℕ)) (rest : Remainder) (text : List ℕ) (lost : List (List ℕ)) (before between behind : List Fault)
    (more : Bool) (fault : Fault) → HasFault meant rest.text fault → follows rest.lost (line_in source fault.line) fault.why ≡ false → 0 < rest.looks →
    0 < rest.left → leaves_doubt meant source fault.line fault.why ≡ false → between ≡ before ++ fault ∷ [] →
    text ≡ blanked fault.line rest.text → lost ≡ rest.lost ++ lost_by meant (line_in source fault.line) →
    Adds meant source (record { looks = rest.looks - 1; left = rest.left - 1; text = text; lost = lost }) between behind more →
    Adds meant source rest before behind more
adds_told meant source rest text lost before between behind more fault has own some room sure grown text_is lost_is adds =
    let flat : (before ++ fault ∷ []) ++ adds.told ≡ before ++ (fault ∷ adds.told) = simp append_assoc in
    record {
      told = fault ∷ adds.told;
      behind_is = adds.behind_is ∙ ap (λ some. some ++ adds.told) grown ∙ flat;
      lists = told has own some room sure
          (subst (λ names. Lists meant source (record (behind_told meant source fault rest) { lost = names }) adds.told more) lost_is
          (subst (λ now. Lists meant source (record { looks = rest.looks - 1; left = rest.left - 1; text = now; lost = lost }) adds.told more) text_is adds.lists));
    }

-- the list begins behind the first fault of a text
pub list_begun : (meant : Meant) (source : List (List ℕ)) (first : Fault) (all text now : List ℕ) (lost lost_now : List (List ℕ))
    (before behind : List Fault) (more : Bool) → text ≡ all → now ≡ blanked first.line text → lost ≡ [] →
    lost_now ≡ lost ++ lost_by meant (line_in source first.line) → before ≡ [] →
    Adds meant source (record { looks = most_left_out - 1; left = most_told - 1; text = now; lost = lost_now }) before behind more →
    Lists meant source (behind_told meant source first (all_of all)) behind more
list_begun meant source first all text now lost lost_now before behind more same text_is none lost_is empty adds =
    let begun : Remainder = behind_told meant source first (all_of all) in
    let told_is : adds.told ≡ behind = sym (adds.behind_is ∙ ap (λ some. some ++ adds.told) empty) in
    let names : lost_now ≡ lost_by meant (line_in source first.line) = lost_is ∙ ap (λ some. some ++ lost_by meant (line_in source first.line)) none in
    subst (λ some. Lists meant source begun some more) told_is
    (subst (λ some. Lists meant source (record begun { lost = some }) adds.told more) names
    (subst (λ some. Lists meant source (record begun { text = some; lost = lost_now }) adds.told more) (text_is ∙ ap (blanked first.line) same) adds.lists))

behind_first : (doubt : Bool) (meant : Meant) (text : List ℕ) (first : Fault) (others : List Fault) (more : Bool) → doubt ≡ true → others ≡ [] →
    more ≡ false → ListsBehind doubt meant text first others more
behind_first true meant text first others more is none no_more = (none, no_more)
behind_first false meant text first others more is none no_more = absurd (cc)

-- the first fault alone is told
pub lists_first : (meant : Meant) (text : List ℕ) (source : List (List ℕ)) (first : Fault) (others : List Fault) (more is_last : Bool) →
    HasFault meant text first → source ≡ lines text → is_last ≡ leaves_doubt meant source first.line first.why → is_last ≡ true → others ≡ [] →
    more ≡ false → ListsFaults meant text first others more
lists_first meant text source first others more is_last has is doubt holds none no_more = (
  has,
  behind_first (leaves_doubt meant (lines text) first.line first.why) meant text first others more
      (ap (λ some. leaves_doubt meant some first.line first.why) (sym is) ∙ sym doubt ∙ holds) none no_more,
)

behind_sure : (doubt : Bool) (meant : Meant) (text : List ℕ) (first : Fault) (others : List Fault) (more : Bool) → doubt ≡ false →
    Lists meant (lines text) (behind_told meant (lines text) first (all_of text)) others more →
    ListsBehind doubt meant text first others more
behind_sure true meant text first others more is lists = absurd (cc)
behind_sure false meant text first others more is lists = lists

-- others are told behind the first one
pub lists_more : (meant : Meant) (text : List ℕ) (source : List (List ℕ)) (first : Fault) (others : List Fault) (more is_last : Bool) →
    HasFault meant text first → source ≡ lines text → is_last ≡ leaves_doubt meant source first.line first.why → is_last ≡ false →
    Lists meant source (behind_told meant source first (all_of text)) others more →
    ListsFaults meant text first others more
lists_more meant text source first others more is_last has is doubt fails lists = (
  has,
  behind_sure (leaves_doubt meant (lines text) first.line first.why) meant text first others more
      (ap (λ some. leaves_doubt meant some first.line first.why) (sym is) ∙ sym doubt ∙ fails)
      (subst (λ some. Lists meant some (behind_told meant some first (all_of text)) others more) is lists),
)
