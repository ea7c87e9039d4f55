-- The orders of addresses by a rank of the words are total orders.
use Rattle.std.proofs.Common.{ℕ, ◌≡◌, ◌≢◌, ◌⊎◌, ◌<◌, ltb, IsTrue, inl, inr, Bool, true, false, not, cond, [], ◌∷◌, refl, ap, ◌∙◌, arith, lt_trans, ltb-true, lt-ltb}
use Rattle.std.proofs.lemmas.Bool.Decides.{nat_tests}
use Rattle.model_strands.specs.Address.{Word, child, next, join, Address, same_word, Difference, equal, prefix, extension, differ, first_difference}
use Rattle.law_addresses.specs.Address.{reversed, before_at, before, english, hebrew, english_before, hebrew_before}
use Rattle.law_addresses.specs.Laws.{IsStrictTotalOrder}
use Rattle.law_addresses.proofs.Differences.{same_word-self, same_word-true, same_word-distinct, first_difference-self, first_difference-reversed, first_difference-made, IsMade}

-- different words have different ranks
abbrev pub IsRank : (Word → ℕ) → Type 0
IsRank rank = (x y : Word) → rank x ≡ rank y → x ≡ y

pub english-ranks : IsRank english
english-ranks child child h = refl
english-ranks next next h = refl
english-ranks join join h = refl
english-ranks child next h = absurd (omega arith)
english-ranks child join h = absurd (omega arith)
english-ranks next child h = absurd (omega arith)
english-ranks next join h = absurd (omega arith)
english-ranks join child h = absurd (omega arith)
english-ranks join next h = absurd (omega arith)

pub hebrew-ranks : IsRank hebrew
hebrew-ranks child child h = refl
hebrew-ranks next next h = refl
hebrew-ranks join join h = refl
hebrew-ranks child next h = absurd (omega arith)
hebrew-ranks child join h = absurd (omega arith)
hebrew-ranks next child h = absurd (omega arith)
hebrew-ranks next join h = absurd (omega arith)
hebrew-ranks join child h = absurd (omega arith)
hebrew-ranks join next h = absurd (omega arith)

ltb-opposite : (m n : ℕ) → m ≢ n → ltb n m ≡ not (ltb m n)
ltb-opposite m n ne = grind (arith, nat_tests)

-- no address is before itself
pub before-irreflexive : (rank : Word → ℕ) (a : Address) → before rank a a ≡ false
before-irreflexive rank a = rw first_difference-self refl

-- how one address is before another, by their first words
before-cons_cases : (rank : Word → ℕ) (x y : Word) (a b : Address) → before rank (x ∷ a) (y ∷ b) ≡ true →
    ((x ≡ y) × (before rank a b ≡ true)) ⊎ (rank x < rank y)
before-cons_cases rank x y a b = go (same_word x y) refl
  where
    go : (t : Bool) → same_word x y ≡ t → before_at rank (cond t (first_difference a b) (differ x y)) ≡ true →
        ((x ≡ y) × (before rank a b ≡ true)) ⊎ (rank x < rank y)
    go true e h = inl (same_word-true x y e, h)
    go false e h = inr (ltb-true (rank x) (rank y) h)

before-cons_same : (rank : Word → ℕ) (x : Word) (a b : Address) → before rank a b ≡ true → before rank (x ∷ a) (x ∷ b) ≡ true
before-cons_same rank x a b h = rw (same_word-self x) h

pub same_word-below : (rank : Word → ℕ) (x y : Word) → rank x < rank y → same_word x y ≡ false
same_word-below rank x y h = go (same_word x y) refl
  where
    go : (t : Bool) → same_word x y ≡ t → t ≡ false
    go false e = refl
    go true e = absurd (let same_rank : rank x ≡ rank y = ap rank (same_word-true x y e) in omega arith)

pub before-cons_less : (rank : Word → ℕ) (x y : Word) (a b : Address) → rank x < rank y → before rank (x ∷ a) (y ∷ b) ≡ true
before-cons_less rank x y a b h = rw (same_word-below rank x y h) (lt-ltb (rank x) (rank y) h)

-- the order is transitive
pub before-transitive : (rank : Word → ℕ) (a b c : Address) → before rank a b ≡ true → before rank b c ≡ true → before rank a c ≡ true
before-transitive rank [] [] c h k = cc
before-transitive rank [] (y ∷ b) [] h k = cc
before-transitive rank [] (y ∷ b) (z ∷ c) h k = refl
before-transitive rank (x ∷ a) [] c h k = cc
before-transitive rank (x ∷ a) (y ∷ b) [] h k = cc
before-transitive rank (x ∷ a) (y ∷ b) (z ∷ c) h k = go (before-transitive rank a b c) (before-cons_cases rank x y a b h) (before-cons_cases rank y z b c k)
  where
    go : (before rank a b ≡ true → before rank b c ≡ true → before rank a c ≡ true) →
        ((x ≡ y) × (before rank a b ≡ true)) ⊎ (rank x < rank y) →
        ((y ≡ z) × (before rank b c ≡ true)) ⊎ (rank y < rank z) →
        before rank (x ∷ a) (z ∷ c) ≡ true
    go ih (inl p) (inl q) = rw (← (p.0 ∙ q.0)) (before-cons_same rank x a c (ih p.1 q.1))
    go ih (inl p) (inr q) = before-cons_less rank x z a c (rw p.0 q)
    go ih (inr p) (inl q) = before-cons_less rank x z a c (rw (← q.0) p)
    go ih (inr p) (inr q) = before-cons_less rank x z a c (lt_trans p q)

-- of two different addresses just one is before the other
pub before-total : (rank : Word → ℕ) → IsRank rank → (a b : Address) → a ≢ b → before rank b a ≡ not (before rank a b)
before-total rank ranks a b ne = rw (first_difference-reversed a b) (go (first_difference a b) (first_difference-made a b))
  where
    go : (d : Difference) → IsMade d a b → before_at rank (reversed d) ≡ not (before_at rank d)
    go equal h = absurd (ne h)
    go prefix h = refl
    go extension h = refl
    go (differ x y) h = ltb-opposite (rank x) (rank y) (λ e. same_word-distinct x y h.5 (ranks x y e))

strict_total : (rank : Word → ℕ) → IsRank rank → IsStrictTotalOrder (before rank)
strict_total rank ranks = record {
  irreflexive = before-irreflexive rank;
  transitive = before-transitive rank;
  total = λ a b ne. go a b ne (before rank a b) refl;
}
  where
    go : (a b : Address) → a ≢ b → (t : Bool) → before rank a b ≡ t → IsTrue (before rank a b) ⊎ IsTrue (before rank b a)
    go a b ne true e = inl e
    go a b ne false e = inr (before-total rank ranks a b ne ∙ ap not e)

pub english-total : IsStrictTotalOrder english_before
english-total = strict_total english english-ranks

pub hebrew-total : IsStrictTotalOrder hebrew_before
hebrew-total = strict_total hebrew hebrew-ranks
