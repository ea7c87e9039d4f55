-- Items of lists that grow or change at one place.
use Rattle.std.proofs.Common.{◌≡◌, ◌≢◌, ◌⊎◌, inl, inr, ℕ, zero, suc, ◌+◌, List, [], ◌∷◌, ◌++◌, length, set, Some, refl, ap, arith}
use Rattle.std.specs.Prelude.{slice_get}

pub got_kept : {A : Type 0} (xs ys : List A) (place : ℕ) (x : A) → slice_get xs place ≡ Some x → slice_get (xs ++ ys) place ≡ Some x
got_kept [] ys zero x h = absurd (cc)
got_kept [] ys (suc place) x h = absurd (cc)
got_kept (z ∷ xs) ys zero x h = h
got_kept (z ∷ xs) ys (suc place) x h = got_kept xs ys place x h

pub got_behind : {A : Type 0} (xs : List A) (y : A) (ys : List A) → slice_get (xs ++ y ∷ ys) (length xs) ≡ Some y
got_behind [] y ys = refl
got_behind (z ∷ xs) y ys = got_behind xs y ys

-- an item of two lists in a row is one of the first or one of the second
pub got_cases : {A : Type 0} (xs ys : List A) (place : ℕ) (x : A) → slice_get (xs ++ ys) place ≡ Some x →
    (slice_get xs place ≡ Some x) ⊎ ((behind : ℕ) × (place ≡ length xs + behind) × (slice_get ys behind ≡ Some x))
got_cases [] ys place x h = inr (place, omega arith, h)
got_cases (z ∷ xs) ys zero x h = inl h
got_cases (z ∷ xs) ys (suc place) x h =
    elim (got_cases xs ys place x h) [
      | inl k ↦ inl k
      | inr k ↦ (let e = k.1 in inr (k.0, omega arith, k.2))
    ]

pub got_one : {A : Type 0} (y x : A) (place : ℕ) → slice_get (y ∷ []) place ≡ Some x → (place ≡ 0) × (y ≡ x)
got_one y x zero h = (refl, cc)
got_one y x (suc zero) h = absurd (cc)
got_one y x (suc (suc place)) h = absurd (cc)

-- an item of a list that was changed at one place is the new one, or another as it was
pub got_set : {A : Type 0} (xs : List A) (at : ℕ) (y : A) (place : ℕ) (x : A) → slice_get (set xs at y) place ≡ Some x →
    ((place ≡ at) × (y ≡ x)) ⊎ ((place ≢ at) × (slice_get xs place ≡ Some x))
got_set [] zero y zero x h = absurd (cc)
got_set [] zero y (suc place) x h = absurd (cc)
got_set [] (suc at) y zero x h = absurd (cc)
got_set [] (suc at) y (suc place) x h = absurd (cc)
got_set (z ∷ xs) zero y zero x h = inl (refl, cc)
got_set (z ∷ xs) zero y (suc place) x h = inr ((λ e. absurd (omega (arith, e))), h)
got_set (z ∷ xs) (suc at) y zero x h = inr ((λ e. absurd (omega (arith, e))), h)
got_set (z ∷ xs) (suc at) y (suc place) x h =
    elim (got_set xs at y place x h) [
      | inl k ↦ inl (ap suc k.0, k.1)
      | inr k ↦ inr ((λ e. let same : place ≡ at = omega arith in k.0 same), k.1)
    ]

pub set_length : {A : Type 0} (xs : List A) (at : ℕ) (y : A) → length (set xs at y) ≡ length xs
set_length [] zero y = refl
set_length [] (suc at) y = refl
set_length (z ∷ xs) zero y = refl
set_length (z ∷ xs) (suc at) y = ap suc (set_length xs at y)

pub append_length : {A : Type 0} (xs ys : List A) → length (xs ++ ys) ≡ length xs + length ys
append_length [] ys = omega arith
append_length (z ∷ xs) ys = let e = append_length xs ys in omega arith
