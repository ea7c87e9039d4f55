-- One more among those whose places are kept by what they are told as.
use Rattle.std.proofs.Common.{◌≡◌, ℕ, zero, suc, ◌<◌, Bool, true, false, ◌&&◌, cond, List, [], ◌∷◌, ◌++◌, length, map, set, get_or, Option, Some, None, refl, sym, ap, ◌∙◌, subst, arith, Ordering, Less, Equal, Greater, is_eq, bytes_eq, BTreeMap}
use Rattle.std.specs.Option.{option_map, option_or}
use Rattle.std.specs.Ordering.{ordering_then}
use Rattle.std.specs.BTreeMap.{get, Updates}
use Rattle.std.proofs.lemmas.List.{length-map}
use Rattle.std.proofs.lemmas.Map.Text.{is_eq-slice_cmp}
use Rattle.std.proofs.lemmas.Slice.Eq.{bytes_eq-Decides}
use Rattle.race_explanations.specs.declared.finding.Finding.{Finding}
use Rattle.race_explanations.specs.declared.finding.Told.{Told}
use Rattle.race_explanations.specs.Findings.{is_alike, joined, with_finding}
use Rattle.race_explanations.specs.ToldPlaces.{place_of, told_of, told_cmp, is_same, IsToldAs, ArePlacesOf}

-- ---- the place of the first one

or_none : (place : Option ℕ) → option_or place None ≡ place
or_none None = refl
or_none (Some place) = refl

-- one more behind others
module _ {One Wanted : Type 0} (is_as : One → Wanted → Bool) where
  further : (b last : Bool) (place : Option ℕ) (count : ℕ) →
      cond b (Some 0) (option_map suc (option_or place (cond last (Some count) None))) ≡
      option_or (cond b (Some 0) (option_map suc place)) (cond last (Some (suc count)) None)
  further true last place count = refl
  further false last (Some place) count = refl
  further false true None count = refl
  further false false None count = refl

  pub place_more : (all : List One) (one : One) (wanted : Wanted) →
      place_of is_as (all ++ one ∷ []) wanted ≡ option_or (place_of is_as all wanted) (cond (is_as one wanted) (Some (length all)) None)
  place_more [] one wanted = refl
  place_more (other ∷ all) one wanted =
      ap (λ place. cond (is_as other wanted) (Some 0) (option_map suc place)) (place_more all one wanted) ∙
      further (is_as other wanted) (is_as one wanted) (place_of is_as all wanted) (length all)

  -- one that is not as wanted
  pub place_same : (all : List One) (one : One) (wanted : Wanted) → is_as one wanted ≡ false →
      place_of is_as (all ++ one ∷ []) wanted ≡ place_of is_as all wanted
  place_same all one wanted apart =
      place_more all one wanted ∙ ap (λ b. option_or (place_of is_as all wanted) (cond b (Some (length all)) None)) apart ∙
      or_none (place_of is_as all wanted)

  -- one whose place is kept, since none before it is as wanted
  pub place_kept : (all : List One) (one : One) (wanted : Wanted) (count : ℕ) (old new : Option ℕ) → old ≡ place_of is_as all wanted →
      new ≡ cond (is_as one wanted) (Some count) old → count ≡ length all → (is_as one wanted ≡ true → place_of is_as all wanted ≡ None) →
      new ≡ place_of is_as (all ++ one ∷ []) wanted
  place_kept all one wanted count old new before is long none = is ∙ by (is_as one wanted) refl ∙ sym (place_more all one wanted)
    where
      by : (b : Bool) → is_as one wanted ≡ b →
          cond (is_as one wanted) (Some count) old ≡ option_or (place_of is_as all wanted) (cond (is_as one wanted) (Some (length all)) None)
      by true e =
          ap (λ b. cond b (Some count) old) e ∙ ap Some long ∙ ap (λ place. option_or place (Some (length all))) (sym (none e)) ∙
          ap (λ b. option_or (place_of is_as all wanted) (cond b (Some (length all)) None)) (sym e)
      by false e =
          ap (λ b. cond b (Some count) old) e ∙ before ∙ sym (or_none (place_of is_as all wanted)) ∙
          ap (λ b. option_or (place_of is_as all wanted) (cond b (Some (length all)) None)) (sym e)

  pub place_below : (all : List One) (wanted : Wanted) (place : ℕ) → place_of is_as all wanted ≡ Some place → place < length all
  place_below [] wanted place e = cc
  place_below (other ∷ all) wanted place e = by (is_as other wanted) (place_of is_as all wanted) refl e (place_below all wanted)
    where
      by : (b : Bool) (behind : Option ℕ) → place_of is_as all wanted ≡ behind → cond b (Some 0) (option_map suc behind) ≡ Some place →
          ((place : ℕ) → place_of is_as all wanted ≡ Some place → place < length all) → place < length (other ∷ all)
      by true behind at e rest = (let is : 0 ≡ place = cc in omega (arith, is))
      by false None at e rest = cc
      by false (Some behind) at e rest =
          let is : suc behind ≡ place = cc in let below = rest behind at in omega (arith, is, below)

-- ---- what findings are told as

both_equal : (a b c : Ordering) → is_eq (ordering_then a (ordering_then b c)) ≡ ((is_eq a && is_eq b) && is_eq c)
both_equal Less b c = refl
both_equal Greater b c = refl
both_equal Equal Less c = refl
both_equal Equal Greater c = refl
both_equal Equal Equal c = refl

same_texts : (one other : Told) → is_same one other ≡
    ((bytes_eq one.kind.items other.kind.items && bytes_eq one.body.items other.body.items) && bytes_eq one.sure_help.items other.sure_help.items)
same_texts one other =
    both_equal _ _ _ ∙
    (λ i. (is_eq-slice_cmp one.kind.items other.kind.items i && is_eq-slice_cmp one.body.items other.body.items i) &&
    is_eq-slice_cmp one.sure_help.items other.sure_help.items i)

-- the same is told of both
pub same_alike : (one other : Finding) → is_same (told_of one) (told_of other) ≡ is_alike one other
same_alike one other = same_texts (told_of one) (told_of other)

all_three : (a b c : Bool) → ((a && b) && c) ≡ true → (a ≡ true) × (b ≡ true) × (c ≡ true)
all_three true true true e = (refl, refl, refl)
all_three true true false e = cc
all_three true false c e = cc
all_three false b c e = cc

-- what is told alike is found alike
same_found : (one other : Told) → is_same one other ≡ true → (all : List Told) → place_of is_same all other ≡ place_of is_same all one
same_found one other same all =
    let three = all_three (bytes_eq one.kind.items other.kind.items) (bytes_eq one.body.items other.body.items)
    (bytes_eq one.sure_help.items other.sure_help.items) (sym (same_texts one other) ∙ same) in
    by all ((bytes_eq-Decides one.kind.items other.kind.items).0 three.0) ((bytes_eq-Decides one.body.items other.body.items).0 three.1)
    ((bytes_eq-Decides one.sure_help.items other.sure_help.items).0 three.2)
  where
    by : (all : List Told) → one.kind.items ≡ other.kind.items → one.body.items ≡ other.body.items → one.sure_help.items ≡ other.sure_help.items →
        place_of is_same all other ≡ place_of is_same all one
    by [] kind body sure = refl
    by (first ∷ all) kind body sure =
        let test : is_same first other ≡ is_same first one =
        same_texts first other ∙
        (λ i. (bytes_eq first.kind.items (sym kind i) && bytes_eq first.body.items (sym body i)) && bytes_eq first.sure_help.items (sym sure i)) ∙
        sym (same_texts first one) in
        ap (λ b. cond b (Some 0) (option_map suc (place_of is_same all other))) test ∙
        ap (λ place. cond (is_same first one) (Some 0) (option_map suc place)) (by all kind body sure)

-- one finding more behind all
pub places_more : (findings : List Finding) (other : Finding) (told : Told) (count : ℕ) (old new : BTreeMap Told ℕ) →
    ArePlacesOf (map told_of findings) old → IsToldAs other told → get told_cmp old (told_of other) ≡ None → count ≡ length (map told_of findings) →
    Updates told_cmp old new told (Some count) → ArePlacesOf (map told_of findings ++ told_of other ∷ []) new
places_more findings other told count old new before copy none long updates wanted =
    place_kept is_same (map told_of findings) (told_of other) wanted count (get told_cmp old wanted) (get told_cmp new wanted) (before wanted)
    (updates.0 wanted ∙ ap (λ b. cond b (Some count) (get told_cmp old wanted)) same) long
    (λ e. same_found (told_of other) wanted e (map told_of findings) ∙ sym (before (told_of other)) ∙ none)
  where
    same : is_same told wanted ≡ is_same (told_of other) wanted
    same =
        same_texts told wanted ∙
        (λ i. (bytes_eq (copy.kind_is i) wanted.kind.items && bytes_eq (copy.body_is i) wanted.body.items) &&
        bytes_eq (copy.sure_is i) wanted.sure_help.items) ∙
        sym (same_texts (told_of other) wanted)

-- ---- the list with one finding more

-- it is told as the one at a place
pub joins_at : (findings : List Finding) (other d : Finding) (place : ℕ) → place_of is_same (map told_of findings) (told_of other) ≡ Some place →
    with_finding findings other ≡ set findings place (joined (get_or findings place d) other)
joins_at [] other d place e = cc
joins_at (one ∷ findings) other d place e =
    by (is_alike one other) (place_of is_same (map told_of findings) (told_of other)) refl
    (sym (ap (λ b. cond b (Some 0) (option_map suc (place_of is_same (map told_of findings) (told_of other)))) (same_alike one other)) ∙ e)
    (joins_at findings other d)
  where
    by : (b : Bool) (behind : Option ℕ) → place_of is_same (map told_of findings) (told_of other) ≡ behind →
        cond b (Some 0) (option_map suc behind) ≡ Some place →
        ((place : ℕ) → place_of is_same (map told_of findings) (told_of other) ≡ Some place →
        with_finding findings other ≡ set findings place (joined (get_or findings place d) other)) →
        cond b (joined one other ∷ findings) (one ∷ with_finding findings other) ≡
        set (one ∷ findings) place (joined (get_or (one ∷ findings) place d) other)
    by true behind at e rest =
        let is : 0 ≡ place = cc in
        subst (λ n. joined one other ∷ findings ≡ set (one ∷ findings) n (joined (get_or (one ∷ findings) n d) other)) is refl
    by false None at e rest = cc
    by false (Some behind) at e rest =
        let is : suc behind ≡ place = cc in
        subst (λ n. one ∷ with_finding findings other ≡ set (one ∷ findings) n (joined (get_or (one ∷ findings) n d) other)) is
        (ap (λ some. one ∷ some) (rest behind at))

-- it is told as none
pub joins_none : (findings : List Finding) (other : Finding) → place_of is_same (map told_of findings) (told_of other) ≡ None →
    with_finding findings other ≡ findings ++ other ∷ []
joins_none [] other e = refl
joins_none (one ∷ findings) other e =
    by (is_alike one other) (place_of is_same (map told_of findings) (told_of other)) refl
    (sym (ap (λ b. cond b (Some 0) (option_map suc (place_of is_same (map told_of findings) (told_of other)))) (same_alike one other)) ∙ e)
    (joins_none findings other)
  where
    by : (b : Bool) (behind : Option ℕ) → place_of is_same (map told_of findings) (told_of other) ≡ behind →
        cond b (Some 0) (option_map suc behind) ≡ None →
        (place_of is_same (map told_of findings) (told_of other) ≡ None → with_finding findings other ≡ findings ++ other ∷ []) →
        cond b (joined one other ∷ findings) (one ∷ with_finding findings other) ≡ one ∷ findings ++ other ∷ []
    by true behind at e rest = cc
    by false (Some behind) at e rest = cc
    by false None at e rest = ap (λ some. one ∷ some) (rest at)

-- what is told of all stays
pub told_stays : (findings : List Finding) (place : ℕ) (one d : Finding) → told_of one ≡ told_of (get_or findings place d) → place < length findings →
    map told_of (set findings place one) ≡ map told_of findings
told_stays [] place one d e below = refl
told_stays (first ∷ findings) zero one d e below = ap (λ told. told ∷ map told_of findings) e
told_stays (first ∷ findings) (suc place) one d e below = ap (λ some. told_of first ∷ some) (told_stays findings place one d e (omega (arith, below)))

told_more : (findings : List Finding) (other : Finding) → map told_of (findings ++ other ∷ []) ≡ map told_of findings ++ told_of other ∷ []
told_more [] other = refl
told_more (one ∷ findings) other = ap (λ some. told_of one ∷ some) (told_more findings other)

-- the places with that of a finding that is told as none
pub places_pushed : (findings new : List Finding) (other : Finding) (told : Told) (count : ℕ) (before after : BTreeMap Told ℕ) →
    ArePlacesOf (map told_of findings) before → place_of is_same (map told_of findings) (told_of other) ≡ None → IsToldAs other told → count ≡ length findings →
    Updates told_cmp before after told (Some count) → new ≡ findings ++ other ∷ [] → ArePlacesOf (map told_of new) after
places_pushed findings new other told count before after are none copy long updates is =
    subst (λ all. ArePlacesOf all after) (sym (ap (map told_of) is ∙ told_more findings other))
    (places_more findings other told count before after are copy (are (told_of other) ∙ none) (long ∙ sym (length-map findings told_of)) updates)

-- the place at which it is told
pub place_within : (findings : List Finding) (other : Finding) (place : ℕ) → place_of is_same (map told_of findings) (told_of other) ≡ Some place →
    place < length findings
place_within findings other place e =
    let below = place_below is_same (map told_of findings) (told_of other) place e in omega (arith, below, length-map findings told_of)

-- the list with a finding that is told as none
pub pushed_none : (all now from new : List Finding) (one other : Finding) → all ≡ now → from ≡ all → one ≡ other →
    place_of is_same (map told_of all) (told_of other) ≡ None → new ≡ from ++ one ∷ [] → new ≡ with_finding now other
pushed_none all now from new one other seen same is none pushed =
    pushed ∙ (λ i. same i ++ is i ∷ []) ∙ sym (joins_none all other none) ∙ ap (λ some. with_finding some other) seen
