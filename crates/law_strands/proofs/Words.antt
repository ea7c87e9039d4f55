-- Addresses that grow by one word at their end: prefixes, and what reaches what.
-- a, b: addresses; w, x, y: words
use Rattle.std.proofs.Common.{◌≡◌, ◌≢◌, ◌⊎◌, inl, inr, Bool, true, false, [], ◌∷◌, ◌++◌, ◌&&◌, refl, sym, ap, ◌∙◌, subst, append-nil, append_assoc, IsTrue}
use Rattle.std.proofs.lemmas.Bool.{and_parts, and_from, cases_Bool, or_cases}
use Rattle.model_strands.specs.Address.{Word, child, next, join, Address, extended}
use Rattle.law_addresses.specs.Address.{is_fork, same, is_prefix, reaches, english_before, hebrew_before, branch, IsPrefix, PartBy}
use Rattle.law_addresses.proofs.Differences.{first_difference-longer, first_difference-append}
use Rattle.law_addresses.proofs.Relations.{cases_same, is_prefix-decides, same-decides, reaches-self, reaches-decides, reaches-orders, reaches-transitive}
use Rattle.law_addresses.proofs.Branches.{cases_last, by_last, branch-fork, branch-join}
use Rattle.law_addresses.proofs.Orders.{english-total, hebrew-total}
use Rattle.law_addresses.proofs.Extensions.{reaches-append, reaches-extension, reaches-fork, reaches-join}

-- a path leads from a to b
abbrev pub Precedes : Address → Address → Type 0
Precedes a b = reaches a b ≡ true

-- where they part, a goes on to a child or a continuation and b to the join
abbrev pub Diverges : Address → Address → Type 0
Diverges a b = PartBy (λ x y. IsTrue (is_fork x) × (y ≡ join)) a b

abbrev pub ◌▹◌ : Address → Word → Address
a ▹ w = extended a w

infixl 60 ◌▹◌
pub prefix_refl : (a : Address) → IsPrefix a a
prefix_refl a = ([], sym (append-nil a))

pub prefix_of_longer : (a b : Address) (w : Word) → IsPrefix (a ▹ w) b → IsPrefix a b
prefix_of_longer a b w h = (w ∷ h.0, h.1 ∙ append_assoc a (w ∷ []) h.0)

pub prefix_widen : (a b : Address) (w : Word) → IsPrefix a b → IsPrefix a (b ▹ w)
prefix_widen a b w h = (h.0 ▹ w, ap (λ z. z ▹ w) h.1 ∙ append_assoc a h.0 (w ∷ []))

pub last_same : (a b : Address) (x y : Word) → a ▹ x ≡ b ▹ y → (a ≡ b) × (x ≡ y)
last_same [] [] x y e = (refl, cc)
last_same [] (z ∷ []) x y e = absurd (cc)
last_same [] (z ∷ v ∷ b) x y e = absurd (cc)
last_same (w ∷ []) [] x y e = absurd (cc)
last_same (w ∷ v ∷ a) [] x y e = absurd (cc)
last_same (w ∷ a) (z ∷ b) x y e = let heads : w ≡ z = cc in let tails : a ▹ x ≡ b ▹ y = cc in let rest = last_same a b x y tails in (cc, rest.1)

pub prefix_longer : (a b : Address) (w : Word) → IsPrefix a (b ▹ w) → IsPrefix a b ⊎ (a ≡ b ▹ w)
prefix_longer a b w (r, e) = go (cases_last r)
  where
    go : (r ≡ []) ⊎ ((q : Address) × (x : Word) × (r ≡ q ▹ x)) → IsPrefix a b ⊎ (a ≡ b ▹ w)
    go (inl f) = inr (sym (append-nil a) ∙ ap (λ z. a ++ z) (sym f) ∙ sym e)
    go (inr (q, x, f)) = inl (q, (last_same b (a ++ q) w x (e ∙ ap (λ z. a ++ z) f ∙ sym (append_assoc a q (x ∷ [])))).0)

pub not_prefix_shorter : (a : Address) (w : Word) → IsPrefix (a ▹ w) a → ⊥
not_prefix_shorter a w h =
    let begins : is_prefix (a ▹ w) a ≡ true = (is_prefix-decides (a ▹ w) a).1 h in
    let longer : is_prefix (a ▹ w) a ≡ false = rw (first_difference-longer a w []) refl in
    cc

sides_apart : (x y : Word) → is_prefix (x ∷ []) (y ∷ []) ≡ true → x ≡ y
sides_apart child child h = refl
sides_apart child next h = cc
sides_apart child join h = cc
sides_apart next child h = cc
sides_apart next next h = refl
sides_apart next join h = cc
sides_apart join child h = cc
sides_apart join next h = cc
sides_apart join join h = refl

pub prefix_siblings : (a : Address) (x y : Word) → IsPrefix (a ▹ x) (a ▹ y) → x ≡ y
prefix_siblings a x y h =
    sides_apart x y (rw (first_difference-append a (x ∷ []) (y ∷ [])) at ((is_prefix-decides (a ▹ x) (a ▹ y)).1 h))

pub diverges_extend : (a b : Address) (w : Word) → Diverges a b → Diverges (a ▹ w) b
diverges_extend a b w (p, u, v, x, y, e, f, k) = (p, u ▹ w, v, x, y, ap (λ z. z ▹ w) e ∙ append_assoc p (x ∷ u) (w ∷ []), f, k)

pub diverges_join : (a : Address) (w : Word) → is_fork w ≡ true → Diverges (a ▹ w) (a ▹ join)
diverges_join a w fork = (a, [], [], w, join, refl, refl, (fork, refl))

pub diverges_precedes : (a b : Address) → Diverges a b → Precedes a b
diverges_precedes a b h = (reaches-decides a b).1 (inr h)

pub precedes_or_not : (a b : Address) → Precedes a b ⊎ (Precedes a b → ⊥)
precedes_or_not a b = elim (cases_Bool (reaches a b)) [ inl h ↦ inl h | inr h ↦ inr (λ k. cc) ]

-- what reaches a child or a continuation reaches the spawner, or is it
pub precedes_side : (a b : Address) (w : Word) → is_fork w ≡ true → Precedes a (b ▹ w) → Precedes a b ⊎ (a ≡ b ▹ w)
precedes_side a b w fork h = go (or_cases (same a (b ▹ w)) (reaches a b) (sym (reaches-fork w fork a b) ∙ h))
  where
    go : (same a (b ▹ w) ≡ true) ⊎ (reaches a b ≡ true) → Precedes a b ⊎ (a ≡ b ▹ w)
    go (inl k) = inr ((same-decides a (b ▹ w)).0 k)
    go (inr k) = inl k

side_begins : (a b : Address) (w : Word) → Precedes a b ⊎ (a ≡ b ▹ w) → Precedes a b ⊎ IsPrefix b a
side_begins a b w (inl h) = inl h
side_begins a b w (inr e) = inr (w ∷ [], e)

-- what reaches a longer address reaches the shorter one, or begins with it
pub precedes_longer : (a b : Address) (w : Word) → Precedes a (b ▹ w) → Precedes a b ⊎ IsPrefix b a
precedes_longer a b join h = go (is_prefix (b ▹ join) a) refl
  where
    either : (is_prefix b a ≡ true) ⊎ (reaches a b ≡ true) → Precedes a b ⊎ IsPrefix b a
    either (inl k) = inr ((is_prefix-decides b a).0 k)
    either (inr k) = inl k

    go : (t : Bool) → is_prefix (b ▹ join) a ≡ t → Precedes a b ⊎ IsPrefix b a
    go true e = inr (prefix_of_longer b a join ((is_prefix-decides (b ▹ join) a).0 e))
    go false e = either (or_cases (is_prefix b a) (reaches a b) (sym (reaches-join a b e) ∙ h))
precedes_longer a b child h = side_begins a b child (precedes_side a b child refl h)
precedes_longer a b next h = side_begins a b next (precedes_side a b next refl h)

pub precedes_of_longer : (a b : Address) (w : Word) → Precedes (a ▹ w) b → Precedes a b
precedes_of_longer a b w h = reaches-transitive a (a ▹ w) b (reaches-extension a (w ∷ [])) h

pub not_precedes_shorter : (a : Address) (w : Word) → Precedes (a ▹ w) a → ⊥
not_precedes_shorter a w h = let longer : reaches (a ▹ w) a ≡ false = rw (first_difference-longer a w []) refl in cc

sides_precede : (x y : Word) → reaches (x ∷ []) (y ∷ []) ≡ true → (x ≡ y) ⊎ ((is_fork x ≡ true) × (y ≡ join))
sides_precede child child h = inl refl
sides_precede child next h = cc
sides_precede child join h = inr (refl, refl)
sides_precede next child h = cc
sides_precede next next h = inl refl
sides_precede next join h = inr (refl, refl)
sides_precede join child h = cc
sides_precede join next h = cc
sides_precede join join h = inl refl

pub precedes_siblings : (a : Address) (x y : Word) → Precedes (a ▹ x) (a ▹ y) → (x ≡ y) ⊎ ((is_fork x ≡ true) × (y ≡ join))
precedes_siblings a x y h = sides_precede x y (sym (reaches-append a (x ∷ []) (y ∷ [])) ∙ h)

-- what reaches another address is before it in both orders
pub precedes_english : (a b : Address) → a ≢ b → Precedes a b → english_before a b ≡ true
precedes_english a b ne h = (and_parts (english_before a b) (hebrew_before a b) (sym (reaches-orders a b ne) ∙ h)).0

-- A branch is a prefix of its address.
pub branch_prefix : (a : Address) → IsPrefix (branch a) a
branch_prefix = by_last (λ a. IsPrefix (branch a) a) (prefix_refl []) step
  where
    step : (a : Address) (w : Word) → IsPrefix (branch a) a → IsPrefix (branch (a ▹ w)) (a ▹ w)
    step a child h = rw (branch-fork child refl a) (prefix_refl (a ▹ child))
    step a next h = rw (branch-fork next refl a) (prefix_refl (a ▹ next))
    step a join h = rw (branch-join a) (prefix_widen (branch a) a join h)

-- The English order is strict.
pub english_irreflexive : (a : Address) → english_before a a ≡ true → ⊥
english_irreflexive a h = let never = english-total.irreflexive a in cc

pub english_asymmetric : (a b : Address) → english_before a b ≡ true → english_before b a ≡ true → ⊥
english_asymmetric a b h k = english_irreflexive a (english-total.transitive a b a h k)

pub english_then : (a b c : Address) → english_before a b ≡ true → english_before b c ≡ true → english_before a c ≡ true
english_then a b c h k = english-total.transitive a b c h k

pub english_cases : (a b : Address) → (english_before a b ≡ true) ⊎ (a ≡ b) ⊎ (english_before b a ≡ true)
english_cases a b = elim (cases_same a b) [ inl e ↦ inr (inl e) | inr ne ↦ elim (english-total.total a b ne) [ inl h ↦ inl h | inr h ↦ inr (inr h) ] ]

-- what is before the end of a path in the English order, and does not reach it, is before the path's start or is reached from there
pub english_between : (a between b : Address) → Precedes a b → english_before between b ≡ true → (Precedes between b → ⊥) →
    (english_before between a ≡ true) ⊎ Precedes a between
english_between a between b path early apart = go (english_cases between a)
  where
    both : a ≢ between → (english_before a between && hebrew_before a between) ≡ true → Precedes a between
    both ne h = reaches-orders a between ne ∙ h

    -- the Hebrew order has it before the end too, if it has it before the start
    too_early : english_before a between ≡ true → hebrew_before between a ≡ true → ⊥
    too_early h k = elim (cases_same a b) [
      | inl e ↦ english_asymmetric a between h (subst (λ z. english_before between z ≡ true) (sym e) early)
      | inr ne ↦ (let ends = (and_parts (english_before a b) (hebrew_before a b) (sym (reaches-orders a b ne) ∙ path)).1 in
          apart (reaches-orders between b (λ e. english_irreflexive b (subst (λ z. english_before z b ≡ true) e early)) ∙
          and_from (english_before between b) (hebrew_before between b) early (hebrew-total.transitive between a b k ends)))
    ]

    go : (english_before between a ≡ true) ⊎ (between ≡ a) ⊎ (english_before a between ≡ true) → (english_before between a ≡ true) ⊎ Precedes a between
    go (inl h) = inl h
    go (inr (inl e)) = inr (subst (Precedes a) (sym e) (reaches-self a))
    go (inr (inr h)) =
        let ne : a ≢ between = λ e. english_irreflexive between (subst (λ z. english_before z between ≡ true) e h) in
        elim (hebrew-total.total a between ne) [
          | inl k ↦ inr (both ne (and_from (english_before a between) (hebrew_before a between) h k))
          | inr k ↦ absurd (too_early h k)
        ]
