-- The cases of races, one by one; and what is told of items that are listed one by one.
use Rattle.std.proofs.Common.{◌≡◌, ℕ, ◌+◌, ◌<◌, List, [], ◌∷◌, ◌++◌, length, take, map, get_or, sym, subst, ap, ◌∙◌, append-nil, append_assoc, flat_map, refl, arith}
use Rattle.std.proofs.lemmas.Grind.{flat_map-append}
use Rattle.std.proofs.lemmas.List.{take_more, length-map, get_or-map}
use Rattle.std.proofs.lemmas.Option.{slice_get_read}
use Rattle.model_histories.specs.declared.answer.Entry.{Entry}
use Rattle.race_pairs.specs.declared.race.Pair.{Pair}
use Rattle.race_pairs.specs.declared.race.Race.{Race}
use Rattle.race_explanations.specs.declared.case.Case.{Case}
use Rattle.race_explanations.specs.declared.case.Course.{Course}
use Rattle.race_explanations.specs.Settings.{Setting}
use Rattle.race_explanations.specs.Cases.{IsCase, AreCases, none, more, course_of}
use Rattle.race_explanations.specs.Groups.{course_if, course_at}

-- no pair
pub no_cases : (entries : List Entry) (cases : List Case) → cases ≡ [] → AreCases entries [] cases
no_cases entries cases is = subst (λ (all : List Case). AreCases entries [] all) (sym is) none

-- one pair more
one_case : (entries : List Entry) (pairs : List Pair) (index : ℕ) (d : Pair) (one : Case) (cases new : List Case) → index < length pairs →
    AreCases entries (take index pairs) cases → IsCase entries (get_or pairs index d) one → new ≡ cases ++ one ∷ [] →
    AreCases entries (take (index + 1) pairs) new
one_case entries pairs index d one cases new below before of is =
    subst (λ (first : List Pair). AreCases entries first new) (sym (take_more pairs index d below))
    (subst (λ (all : List Case). AreCases entries (take index pairs ++ get_or pairs index d ∷ []) all) (sym is)
    (more (get_or pairs index d) one before of))

-- one pair more of those of races
pub race_case : (entries : List Entry) (races : List Race) (index : ℕ) (d : Race) (one : Case) (cases new : List Case) → index < length races →
    AreCases entries (take index (map (λ (race : Race). race.pair) races)) cases → IsCase entries (get_or races index d).pair one →
    new ≡ cases ++ one ∷ [] → AreCases entries (take (index + 1) (map (λ (race : Race). race.pair) races)) new
race_case entries races index d one cases new below before of is =
    one_case entries (map (λ (race : Race). race.pair) races) index d.pair one cases new
    (omega (arith, below, length-map races (λ (race : Race). race.pair))) before
    (subst (λ (pair : Pair). IsCase entries pair one) (sym (get_or-map (λ (race : Race). race.pair) races index d d.pair below)) of) is

-- one item more of those that are listed one by one
pub listed_more : {X Y : Type 0} (f : X → List Y) (items : List X) (index : ℕ) (d : X) → index < length items →
    flat_map f (take (index + 1) items) ≡ flat_map f (take index items) ++ f (get_or items index d)
listed_more f items index d below =
    ap (flat_map f) (take_more items index d below) ∙ flat_map-append f (take index items) (get_or items index d ∷ []) ∙
    ap (λ t. flat_map f (take index items) ++ t) (append-nil (f (get_or items index d)))

pub listed_one : {X Y : Type 0} (f : X → List Y) (items : List X) (index : ℕ) (d : X) (old new : List Y) → index < length items →
    old ≡ flat_map f (take index items) → new ≡ old ++ f (get_or items index d) → new ≡ flat_map f (take (index + 1) items)
listed_one f items index d old new below before is =
    is ∙ ap (λ t. t ++ f (get_or items index d)) before ∙ sym (listed_more f items index d below)

-- the same behind others
pub listed_behind : {X Y : Type 0} (f : X → List Y) (items : List X) (index : ℕ) (d : X) (front old new : List Y) → index < length items →
    old ≡ front ++ flat_map f (take index items) → new ≡ old ++ f (get_or items index d) → new ≡ front ++ flat_map f (take (index + 1) items)
listed_behind f items index d front old new below before is =
    is ∙ ap (λ t. t ++ f (get_or items index d)) before ∙ append_assoc front (flat_map f (take index items)) (f (get_or items index d)) ∙
    ap (λ t. front ++ t) (sym (listed_more f items index d below))

-- the course of the case at a place
pub course_here : (setting : Setting) (cases : List Case) (place : ℕ) (case : Case) (course : Course) (old new : List Course) →
    place < length cases → case ≡ get_or cases place case → course ≡ course_of setting case.encounter → new ≡ old ++ course ∷ [] →
    new ≡ old ++ course_at setting cases place
course_here setting cases place case course old new below at told is =
    is ∙ ap (λ courses. old ++ courses) (ap (λ one. one ∷ []) told ∙
    ap (course_if setting) (sym (slice_get_read cases (length cases) place case refl below at)))
