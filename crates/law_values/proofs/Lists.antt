-- Lists put together: members, and pairs in the order of the list.
-- X, Y: the types of the members of lists; u, v, x, y: members; f: a function of members to lists; R: a relation between members
use Rattle.std.proofs.Common.{◌≡◌, ◌↔◌, inl, inr, List, [], ◌∷◌, ◌++◌, AllPairs, refl, sym, ap₂, ◌∙◌, subst}
use Rattle.std.specs.List.{flat_map}
use Rattle.law_addresses.proofs.Sorted.{pairs-nil, pairs-head, pairs-tail, pairs-append}
use Rattle.law_strands.proofs.Members.{Present, present_append, all_present, present_all}

pub in_left : {X : Type 0} (xs ys : List X) (u : X) → Present u xs → Present u (xs ++ ys)
in_left xs ys u i = (present_append xs ys u).1 (inl i)

pub in_right : {X : Type 0} (xs ys : List X) (u : X) → Present u ys → Present u (xs ++ ys)
in_right xs ys u i = (present_append xs ys u).1 (inr i)

pub in_flat : {X Y : Type 0} (f : X → List Y) (xs : List X) (u : Y) → Present u (flat_map f xs) → (x : X) × Present x xs × Present u (f x)
in_flat f [] u i = absurd i
in_flat f (x ∷ xs) u i = elim ((present_append (f x) (flat_map f xs) u).0 i) [
  | inl t ↦ (x, inl refl, t)
  | inr t ↦ (let k = in_flat f xs u t in (k.0, inr k.1, k.2))
]

pub flat_in : {X Y : Type 0} (f : X → List Y) (xs : List X) (u : Y) (x : X) → Present x xs → Present u (f x) → Present u (flat_map f xs)
flat_in f [] u x i k = absurd i
flat_in f (z ∷ xs) u x (inl e) k = in_left (f z) (flat_map f xs) u (subst (λ y. Present u (f y)) (sym e) k)
flat_in f (z ∷ xs) u x (inr i) k = in_right (f z) (flat_map f xs) u (flat_in f xs u x i k)

pub pairs_append : {X : Type 0} (R : X → X → Type 0) (xs ys : List X) → AllPairs R xs → AllPairs R ys →
    ((x y : X) → Present x xs → Present y ys → R x y) → AllPairs R (xs ++ ys)
pairs_append R xs ys a b g = pairs-append R xs ys a b (all_present _ xs (λ x i. all_present (R x) ys (λ y k. g x y i k)))

pub pairs_flat : {X Y : Type 0} (R : Y → Y → Type 0) (Q : X → X → Type 0) (f : X → List Y) (xs : List X) →
    ((x : X) → Present x xs → AllPairs R (f x)) → AllPairs Q xs →
    ((x y : X) (u v : Y) → Present x xs → Present y xs → Q x y → Present u (f x) → Present v (f y) → R u v) → AllPairs R (flat_map f xs)
pairs_flat R Q f [] a b g = pairs-nil R
pairs_flat R Q f (x ∷ xs) a b g =
    pairs_append R (f x) (flat_map f xs) (a x (inl refl))
    (pairs_flat R Q f xs (λ y i. a y (inr i)) (pairs-tail Q x xs b) (λ y z u v i k. g y z u v (inr i) (inr k)))
    (λ u v i k. let t = in_flat f xs v k in
    g x t.0 u v (inl refl) (inr t.1) (present_all (Q x) xs (pairs-head Q x xs b) t.0 t.1) i t.2)

-- two lists with the same members in a strict order are one
pub same_members : {X : Type 0} (R : X → X → Type 0) (xs ys : List X) → ((u v : X) → Present u xs → Present v xs → R u v → R v u → ⊥) →
    AllPairs R xs → AllPairs R ys → ((u : X) → Present u xs ↔ Present u ys) → xs ≡ ys
same_members R [] [] strict a b same = refl
same_members R [] (y ∷ ys) strict a b same = absurd ((same y).1 (inl refl))
same_members R (x ∷ xs) [] strict a b same = absurd ((same x).0 (inl refl))
same_members {X} R (x ∷ xs) (y ∷ ys) strict a b same =
    both (same_members R xs ys (λ u v i k. strict u v (inr i) (inr k)) (pairs-tail R x xs a) (pairs-tail R y ys b) (λ u. (to u, from u)))
  where
    ahead : (u : X) → Present u xs → R x u
    ahead u i = present_all (R x) xs (pairs-head R x xs a) u i

    ahead_there : (u : X) → Present u ys → R y u
    ahead_there u i = present_all (R y) ys (pairs-head R y ys b) u i

    heads : x ≡ y
    heads = elim ((same x).0 (inl refl)) [
      | inl e ↦ sym e
      | inr i ↦ elim ((same y).1 (inl refl)) [
        | inl e ↦ e
        | inr k ↦ absurd (strict x y (inl refl) (inr k) (ahead y k) (ahead_there x i))
      ]
    ]

    itself : (u : X) → Present u (x ∷ xs) → R u u → ⊥
    itself u i r = strict u u i i r r

    to : (u : X) → Present u xs → Present u ys
    to u i = elim ((same u).0 (inr i)) [
      | inl e ↦ absurd (itself u (inr i) (subst (λ z. R z u) (heads ∙ e) (ahead u i)))
      | inr k ↦ k
    ]

    from : (u : X) → Present u ys → Present u xs
    from u i = elim ((same u).1 (inr i)) [
      | inl e ↦ absurd (itself u (inl e) (subst (λ z. R z u) (sym heads ∙ e) (ahead_there u i)))
      | inr k ↦ k
    ]

    both : xs ≡ ys → x ∷ xs ≡ y ∷ ys
    both e = ap₂ (λ z zs. z ∷ zs) heads e
