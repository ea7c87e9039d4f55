-- Names among others.
use Rattle.std.proofs.Common.{◌≡◌, ℕ, Bool, true, false, List, [], ◌∷◌, ◌||◌, ◌&&◌, map, refl, sym, ap, ◌∙◌}
use denote.Ref.{Bor}
use Rattle.std.specs.List.{list_any}
use Rattle.std.specs.Str.{bytes_eq}
use Rattle.text_words.specs.declared.fault.Cause.{Cause}
use Rattle.fault_lists.specs.LineNames.{names_on}
use Rattle.fault_lists.specs.Doubts.{are_lost, is_of_name, follows}

any_map : {X Y : Type 0} (p : Y → Bool) (f : X → Y) (xs : List X) → list_any (λ x. p (f x)) xs ≡ list_any p (map f xs)
any_map p f [] = refl
any_map p f (x ∷ xs) = ap (λ b. p (f x) || b) (any_map p f xs)

-- what is found among the names that references lead to
pub lost_found : (lost names : List (Bor (List ℕ))) →
    list_any (λ (name : Bor (List ℕ)). list_any (λ (one : Bor (List ℕ)). bytes_eq name.now one.now) lost) names ≡
    are_lost (map (λ (one : Bor (List ℕ)). one.now) lost) (map (λ (name : Bor (List ℕ)). name.now) names)
lost_found lost [] = refl
lost_found lost (name ∷ names) =
    ap (λ b. b || list_any (λ (name : Bor (List ℕ)). list_any (λ (one : Bor (List ℕ)). bytes_eq name.now one.now) lost) names)
    (any_map (bytes_eq name.now) (λ (one : Bor (List ℕ)). one.now) lost) ∙
    ap (λ b. list_any (bytes_eq name.now) (map (λ (one : Bor (List ℕ)). one.now) lost) || b) (lost_found lost names)

and_true : (a b r : Bool) → a ≡ true → r ≡ b → r ≡ (a && b)
and_true true b r is same = same
and_true false b r is same = absurd (cc)

-- a fault that may have its cause in a name follows where one of the names is lost
pub name_follows : (lost names : List (Bor (List ℕ))) (line : List ℕ) (why : Cause) (of_name result : Bool) → of_name ≡ is_of_name why → of_name ≡ true →
    result ≡ list_any (λ (name : Bor (List ℕ)). list_any (λ (one : Bor (List ℕ)). bytes_eq name.now one.now) lost) names →
    map (λ (name : Bor (List ℕ)). name.now) names ≡ names_on line →
    result ≡ follows (map (λ (one : Bor (List ℕ)). one.now) lost) line why
name_follows lost names line why of_name result is holds found read =
    and_true (is_of_name why) (are_lost (map (λ (one : Bor (List ℕ)). one.now) lost) (names_on line)) result (sym is ∙ holds)
    (found ∙ lost_found lost names ∙ ap (are_lost (map (λ (one : Bor (List ℕ)). one.now) lost)) read)

and_false : (a b r : Bool) → a ≡ false → r ≡ false → r ≡ (a && b)
and_false true b r is same = absurd (cc)
and_false false b r is same = same

pub nothing_follows : (lost : List (List ℕ)) (line : List ℕ) (why : Cause) (of_name result : Bool) → of_name ≡ is_of_name why → of_name ≡ false →
    result ≡ false → result ≡ follows lost line why
nothing_follows lost line why of_name result is fails none =
    and_false (is_of_name why) (are_lost lost (names_on line)) result (sym is ∙ fails) none
