-- A function changed at one number.
-- f: a function of numbers; x, y: numbers; v: a value of f, and A the type of its values
use Rattle.std.proofs.Common.{◌≡◌, ◌≢◌, ◌⊎◌, inl, inr, ℕ, true, false, cond, eqb, refl, sym, subst}
use Rattle.std.proofs.lemmas.Bool.Decides.{eqb_tells}
use Rattle.model_strands.specs.Updated.{updated}

pub same_or_not : (x y : ℕ) → (x ≡ y) ⊎ (x ≢ y)
same_or_not x y = elim (eqb_tells x y) [ inl t ↦ inl t.1 | inr t ↦ inr t.1 ]

pub updated_at : {A : Type 0} (f : ℕ → A) (x : ℕ) (v : A) (y : ℕ) → y ≡ x → updated f x v y ≡ v
unfolding updated
updated_at f x v y e = go (eqb_tells y x)
  where
    go : ((eqb y x ≡ true) × (y ≡ x)) ⊎ ((eqb y x ≡ false) × (y ≢ x)) → cond (eqb y x) v (f y) ≡ v
    go (inl t) = rw t.0 refl
    go (inr t) = absurd (t.1 e)

pub updated_off : {A : Type 0} (f : ℕ → A) (x : ℕ) (v : A) (y : ℕ) → y ≢ x → updated f x v y ≡ f y
unfolding updated
updated_off f x v y ne = go (eqb_tells y x)
  where
    go : ((eqb y x ≡ true) × (y ≡ x)) ⊎ ((eqb y x ≡ false) × (y ≢ x)) → cond (eqb y x) v (f y) ≡ f y
    go (inl t) = absurd (ne t.1)
    go (inr t) = rw t.0 refl

pub updated_case : {A : Type 0} (P : A → Type 0) (f : ℕ → A) (x : ℕ) (v : A) (y : ℕ) →
    (y ≡ x → P v) → (y ≢ x → P (f y)) → P (updated f x v y)
updated_case P f x v y here there =
    elim (same_or_not y x) [
      | inl e ↦ subst P (sym (updated_at f x v y e)) (here e)
      | inr ne ↦ subst P (sym (updated_off f x v y ne)) (there ne)
    ]
