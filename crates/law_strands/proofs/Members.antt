-- Members of lists, and pairs of them in the order of the list.
-- X, Y: the types of the members of lists; a, x, y: members; f: a function of members; P: a property; R, S: relations
use Rattle.std.proofs.Common.{◌≡◌, ◌⊎◌, ◌↔◌, inl, inr, ℕ, ◌<◌, List, [], ◌∷◌, ◌++◌, map, All, AllPairs, Contains, refl, sym, ap, subst, arith}
use Rattle.std.proofs.lemmas.List.Elements.{All-nil, All-cons, All-head, All-tail}
use Rattle.law_addresses.proofs.Extremes.{contains-head, contains-tail, contains-cases}
use Rattle.law_addresses.proofs.Sorted.{pairs-nil, pairs-head, pairs-tail, pairs-append}
use Rattle.std.proofs.lemmas.List.Kept.{AllPairs-cons}

-- one of the list's elements, by where it stands
abbrev pub Present : {X : Type 0} → X → List X → Type 0
Present a [] = ⊥
Present a (x ∷ xs) = (x ≡ a) ⊎ Present a xs

pub present_append : {X : Type 0} (xs ys : List X) (a : X) → Present a (xs ++ ys) ↔ Present a xs ⊎ Present a ys
present_append [] ys a = (λ p. inr p, λ p. elim p [ inl q ↦ absurd q | inr q ↦ q ])
present_append (x ∷ xs) ys a = (forward (present_append xs ys a), backward (present_append xs ys a))
  where
    forward : Present a (xs ++ ys) ↔ Present a xs ⊎ Present a ys → Present a (x ∷ (xs ++ ys)) → Present a (x ∷ xs) ⊎ Present a ys
    forward ih (inl e) = inl (inl e)
    forward ih (inr p) = elim (ih.0 p) [ inl q ↦ inl (inr q) | inr q ↦ inr q ]

    backward : Present a (xs ++ ys) ↔ Present a xs ⊎ Present a ys → Present a (x ∷ xs) ⊎ Present a ys → Present a (x ∷ (xs ++ ys))
    backward ih (inl (inl e)) = inl e
    backward ih (inl (inr p)) = inr (ih.1 (inl p))
    backward ih (inr p) = inr (ih.1 (inr p))

pub present_map : {X Y : Type 0} (f : X → Y) (y : Y) (xs : List X) → Present y (map f xs) → (x : X) × Present x xs × (f x ≡ y)
present_map f y [] p = absurd p
present_map f y (x ∷ xs) (inl e) = (x, inl refl, e)
present_map f y (x ∷ xs) (inr p) = let t = present_map f y xs p in (t.0, inr t.1, t.2)

pub map_present : {X Y : Type 0} (f : X → Y) (x : X) (xs : List X) → Present x xs → Present (f x) (map f xs)
map_present f x [] p = absurd p
map_present f x (z ∷ xs) (inl e) = inl (ap f e)
map_present f x (z ∷ xs) (inr p) = inr (map_present f x xs p)

pub all_present : {X : Type 0} (P : X → Type 0) (xs : List X) → ((a : X) → Present a xs → P a) → All P xs
all_present P [] f = All-nil P
all_present P (x ∷ xs) f = All-cons P x xs (f x (inl refl)) (all_present P xs (λ a p. f a (inr p)))

pub present_all : {X : Type 0} (P : X → Type 0) (xs : List X) → All P xs → (a : X) → Present a xs → P a
present_all P [] k a p = absurd p
present_all P (x ∷ xs) k a (inl e) = subst P e (All-head P x xs k)
present_all P (x ∷ xs) k a (inr p) = present_all P xs (All-tail P x xs k) a p

pub contains_present : {X : Type 0} (a : X) (xs : List X) → Contains xs a ↔ Present a xs
contains_present a [] = (λ t. absurd (none t.0 t.1), λ p. absurd p)
  where
    none : (k : ℕ) → k < 0 → ⊥
    none k h = omega arith
contains_present a (x ∷ xs) = (forward (contains_present a xs), backward (contains_present a xs))
  where
    forward : Contains xs a ↔ Present a xs → Contains (x ∷ xs) a → Present a (x ∷ xs)
    forward ih t = elim (contains-cases x a xs t) [ inl e ↦ inl (sym e) | inr k ↦ inr (ih.0 k) ]

    backward : Contains xs a ↔ Present a xs → Present a (x ∷ xs) → Contains (x ∷ xs) a
    backward ih (inl e) = subst (Contains (x ∷ xs)) e (contains-head x xs)
    backward ih (inr p) = contains-tail x a xs (ih.1 p)

-- what holds of each two members in order holds of their images
pub pairs_map : {X Y : Type 0} (R : X → X → Type 0) (S : Y → Y → Type 0) (f : X → Y) (xs : List X) →
    ((x y : X) → Present x xs → Present y xs → R x y → S (f x) (f y)) → AllPairs R xs → AllPairs S (map f xs)
pairs_map {X} {Y} R S f [] g k = pairs-nil S
pairs_map {X} {Y} R S f (x ∷ xs) g k =
    AllPairs-cons S (f x) (map f xs) (all_present (S (f x)) (map f xs) (λ y p. ahead y (present_map f y xs p)))
    (pairs_map R S f xs (λ a b p q. g a b (inr p) (inr q)) (pairs-tail R x xs k))
  where
    ahead : (y : Y) → (z : X) × Present z xs × (f z ≡ y) → S (f x) y
    ahead y (z, p, e) = subst (S (f x)) e (g x z (inl refl) (inr p) (present_all (R x) xs (pairs-head R x xs k) z p))

pub pairs_alike : {X : Type 0} (R S : X → X → Type 0) (xs : List X) → ((x y : X) → Present x xs → Present y xs → R x y → S x y) → AllPairs R xs → AllPairs S xs
pairs_alike R S [] g k = pairs-nil S
pairs_alike R S (x ∷ xs) g k =
    AllPairs-cons S x xs (all_present (S x) xs (λ y p. g x y (inl refl) (inr p) (present_all (R x) xs (pairs-head R x xs k) y p)))
    (pairs_alike R S xs (λ a b p q. g a b (inr p) (inr q)) (pairs-tail R x xs k))

-- one more element at the end
pub pairs_push : {X : Type 0} (R : X → X → Type 0) (xs : List X) (y : X) → AllPairs R xs → ((x : X) → Present x xs → R x y) → AllPairs R (xs ++ (y ∷ []))
pairs_push R xs y k last =
    pairs-append R xs (y ∷ []) k (AllPairs-cons R y [] (All-nil (R y)) (pairs-nil R))
    (all_present (λ x. All (R x) (y ∷ [])) xs (λ x p. All-cons (R x) y [] (last x p) (All-nil (R x))))
