-- Two lists of the same items leave the same state where each two items stand in the same order in both or may be swapped.
-- X: the type of the members of lists; a, b, x, y: members; R: a relation between them; S: the type of states; s: a state
use Rattle.std.proofs.Common.{◌≡◌, ◌≢◌, ◌⊎◌, inl, inr, List, [], ◌∷◌, ◌++◌, refl, sym, ap, ◌∙◌, subst}

-- the item is in the list
abbrev pub Member : {X : Type 0} → List X → X → Type 0
Member [] x = ⊥
Member (y ∷ ys) x = (x ≡ y) ⊎ Member ys x

-- each item is so related to each one behind it
abbrev pub Paired : {X : Type 0} → (X → X → Type 0) → List X → Type 0
Paired R [] = Unit {0}
Paired {X} R (x ∷ xs) = ((y : X) → Member xs y → R x y) × Paired R xs

module _ {X : Type 0} where
  record Parts (xs : List X) (x : X) : Type 0 where
    front : List X
    back : List X
    whole : xs ≡ front ++ x ∷ back

  parts : (xs : List X) (x : X) → Member xs x → Parts xs x
  parts [] x m = absurd m
  parts (y ∷ xs) x (inl e) = record { front = []; back = xs; whole = ap (λ z. z ∷ xs) (sym e) }
  parts (y ∷ xs) x (inr m) = let p = parts xs x m in record { front = y ∷ p.front; back = p.back; whole = ap (λ zs. y ∷ zs) p.whole }

  member_more : (front back : List X) (x y : X) → Member (front ++ back) y → Member (front ++ x ∷ back) y
  member_more [] back x y m = inr m
  member_more (z ∷ front) back x y (inl e) = inl e
  member_more (z ∷ front) back x y (inr m) = inr (member_more front back x y m)

  member_less : (front back : List X) (x y : X) → Member (front ++ x ∷ back) y → (y ≡ x) ⊎ Member (front ++ back) y
  member_less [] back x y (inl e) = inl e
  member_less [] back x y (inr m) = inr m
  member_less (z ∷ front) back x y (inl e) = inr (inl e)
  member_less (z ∷ front) back x y (inr m) = elim (member_less front back x y m) [ inl e ↦ inl e | inr t ↦ inr (inr t) ]

  member_here : (front back : List X) (x : X) → Member (front ++ x ∷ back) x
  member_here [] back x = inl refl
  member_here (z ∷ front) back x = inr (member_here front back x)

  paired_less : (R : X → X → Type 0) (front back : List X) (x : X) → Paired R (front ++ x ∷ back) → Paired R (front ++ back)
  paired_less R [] back x p = p.1
  paired_less R (z ∷ front) back x p = (λ y m. p.0 y (member_more front back x y m), paired_less R front back x p.1)

  paired_front : (R : X → X → Type 0) (front back : List X) (x a : X) → Paired R (front ++ x ∷ back) → Member front a → R a x
  paired_front R [] back x a p m = absurd m
  paired_front R (z ∷ front) back x a p (inl e) = subst (λ w. R w x) (sym e) (p.0 x (member_here front back x))
  paired_front R (z ∷ front) back x a p (inr m) = paired_front R front back x a p.1 m

  -- a distinct list has an item once
  once : (front back : List X) (x : X) → Paired (λ a b. a ≢ b) (front ++ x ∷ back) → Member (front ++ back) x → ⊥
  once [] back x p m = p.0 x m refl
  once (z ∷ front) back x p (inl e) = p.0 x (member_here front back x) (sym e)
  once (z ∷ front) back x p (inr m) = once front back x p.1 m

  member_front : (front back : List X) (a : X) → Member front a → Member (front ++ back) a
  member_front [] back a m = absurd m
  member_front (z ∷ front) back a (inl e) = inl e
  member_front (z ∷ front) back a (inr m) = inr (member_front front back a m)

  module _ {S : Type 0} (act : X → S → S) where
    -- the state after a list of items, the newest first
    abbrev pub after_all : S → List X → S
    after_all state [] = state
    after_all state (x ∷ xs) = act x (after_all state xs)

    pull : (state : S) (front back : List X) (x : X) → ((a : X) → Member front a → (s : S) → act a (act x s) ≡ act x (act a s)) →
        after_all state (front ++ x ∷ back) ≡ act x (after_all state (front ++ back))
    pull state [] back x swap = refl
    pull state (a ∷ front) back x swap =
        ap (act a) (pull state front back x (λ b m. swap b (inr m))) ∙ swap a (inl refl) (after_all state (front ++ back))

    module _ (Before : X → X → Type 0) where
      -- the list has each item once, and none behind one that is to be before it
      pub record IsOrdered (xs : List X) : Type 0 where
        pub distinct : Paired (λ a b. a ≢ b) xs
        pub ordered : Paired (λ later earlier. Before later earlier → ⊥) xs

      abbrev pub IsSwappable : X → X → Type 0
      IsSwappable a b = Before a b ⊎ Before b a ⊎ ((s : S) → act a (act b s) ≡ act b (act a s))

      none_more : (ys : List X) → ((y : X) → Member ys y → ⊥) → ys ≡ []
      none_more [] none = refl
      none_more (y ∷ ys) none = absurd (none y (inl refl))

      pub same_state : (state : S) (xs ys : List X) → IsOrdered xs → IsOrdered ys → ((x : X) → Member xs x → Member ys x) →
          ((x : X) → Member ys x → Member xs x) → ((a b : X) → Member xs a → Member xs b → a ≢ b → IsSwappable a b) →
          after_all state xs ≡ after_all state ys
      same_state state [] ys o p to back swap = sym (ap (after_all state) (none_more ys (λ y m. back y m)))
      same_state state (x ∷ xs) ys o p to back swap =
          at_parts (same_state state xs) (parts ys x (to x (inl refl)))
        where
          at_parts : ((zs : List X) → IsOrdered xs → IsOrdered zs → ((y : X) → Member xs y → Member zs y) → ((y : X) → Member zs y → Member xs y) →
              ((a b : X) → Member xs a → Member xs b → a ≢ b → IsSwappable a b) → after_all state xs ≡ after_all state zs) →
              Parts ys x → act x (after_all state xs) ≡ after_all state ys
          at_parts again q =
              let o' : IsOrdered (q.front ++ x ∷ q.back) = subst IsOrdered q.whole p in
              let to' : (y : X) → Member (x ∷ xs) y → Member (q.front ++ x ∷ q.back) y = λ y m. subst (λ zs. Member zs y) q.whole (to y m) in
              let back' : (y : X) → Member (q.front ++ x ∷ q.back) y → Member (x ∷ xs) y = λ y m. back y (subst (λ zs. Member zs y) (sym q.whole) m) in
              let less : IsOrdered (q.front ++ q.back) = record { distinct = paired_less _ q.front q.back x o'.distinct; ordered = paired_less _ q.front q.back x o'.ordered } in
              let tail : IsOrdered xs = record { distinct = o.distinct.1; ordered = o.ordered.1 } in
              let on : (y : X) → Member xs y → Member (q.front ++ q.back) y =
              λ y m. elim (member_less q.front q.back x y (to' y (inr m))) [ inl e ↦ absurd (o.distinct.0 y m (sym e)) | inr t ↦ t ] in
              let off : (y : X) → Member (q.front ++ q.back) y → Member xs y =
              λ y m. elim (back' y (member_more q.front q.back x y m)) [
                | inl e ↦ absurd (once q.front q.back x o'.distinct (subst (Member (q.front ++ q.back)) e m))
                | inr t ↦ t
              ] in
              let commutes : (a : X) → Member q.front a → (s : S) → act a (act x s) ≡ act x (act a s) =
              λ a m.
              let ma : Member xs a = off a (member_front q.front q.back a m) in
              elim (swap a x (inr ma) (inl refl) (paired_front _ q.front q.back x a o'.distinct m)) [
                | inl b ↦ absurd (paired_front _ q.front q.back x a o'.ordered m b)
                | inr t ↦ elim t [ inl b ↦ absurd (o.ordered.0 a ma b) | inr c ↦ c ]
              ] in
              ap (act x) (again (q.front ++ q.back) tail less on off (λ a b ma mb. swap a b (inr ma) (inr mb)))
              ∙ sym (pull state q.front q.back x commutes) ∙ sym (ap (after_all state) q.whole)
