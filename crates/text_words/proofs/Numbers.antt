-- The numbers of names in a list: how they are found, and how the list grows.
use Rattle.std.proofs.Common.{◌≡◌, ℕ, zero, suc, ◌<◌, ◌+◌, ◌∷◌, ◌++◌, [], List, Bool, true, false, cond, length, arith, refl, sym, ap, ◌∙◌, inl, inr, zero-add, ◌⊎◌}
use Rattle.std.specs.Prelude.{Option, Some, None, option_copied, slice_get}
use Rattle.std.specs.Slice.{IsItemAt}
use denote.Ref.{Bor}
use Rattle.std.specs.List.{position_from}
use Rattle.std.specs.Str.{bytes_eq}
use Rattle.std.specs.Cmp.Lexicographic.{bytes_decides}
use Rattle.std.proofs.lemmas.Bool.{false≢true}
use Rattle.std.proofs.lemmas.Option.{slice_get-get_or, slice_get_past}
use Rattle.std.proofs.lemmas.Iterator.Adapters.{position_from-zero}
use Rattle.std.proofs.lemmas.List.Quantifiers.{position-Some}
use Rattle.text_words.specs.Slots.{name_number}

-- ---- elements of a longer list

module _ {X : Type 0} (y : X) where
  pub get_old : (xs : List X) (i : ℕ) → i < length xs → slice_get (xs ++ y ∷ []) i ≡ slice_get xs i
  get_old [] i l = absurd (omega (arith, l))
  get_old (x ∷ xs) zero l = refl
  get_old (x ∷ xs) (suc i) l = get_old xs i (omega (arith, l))

  pub get_new : (xs : List X) → slice_get (xs ++ y ∷ []) (length xs) ≡ Some y
  get_new [] = refl
  get_new (x ∷ xs) = get_new xs

  pub get_cases : (xs : List X) (i : ℕ) (z : X) → slice_get (xs ++ y ∷ []) i ≡ Some z → (slice_get xs i ≡ Some z) ⊎ ((i ≡ length xs) × (y ≡ z))
  get_cases [] zero z e = inr (refl, cc)
  get_cases [] (suc i) z e = absurd cc
  get_cases (x ∷ xs) zero z e = inl e
  get_cases (x ∷ xs) (suc i) z e = elim (get_cases xs i z e) [ inl f ↦ inl f | inr f ↦ inr (ap suc f.0, f.1) ]

-- what `get` lends is the element there
pub copied_get : {X : Type 0} (items : List X) (i : ℕ) (o : Option (Bor X)) → IsItemAt items i o → option_copied o ≡ slice_get items i
copied_get items i None h = sym (slice_get_past items i h.3)
copied_get items i (Some x) h = sym (slice_get-get_or items i x.now h.3.0 ∙ ap Some (sym (h.3.1 x.now)))

-- ---- places of a longer list

pub later_one : {X : Type 0} (here : Bool) (x : X) (old new : Option X) (y : X) → cond here (Some x) old ≡ None → (old ≡ None → new ≡ Some y) → cond here (Some x) new ≡ Some y
later_one true x old new y e f = cc
later_one false x old new y e f = f e

earlier_one : {X : Type 0} (here : Bool) (x : X) (old new : Option X) (y : X) → cond here (Some x) old ≡ Some y → (old ≡ Some y → new ≡ Some y) → cond here (Some x) new ≡ Some y
earlier_one true x old new y e f = e
earlier_one false x old new y e f = f e

none_of : {X : Type 0} (here : Bool) (x : X) (old : Option X) → cond here (Some x) old ≡ None → (here ≡ false) × (old ≡ None)
none_of true x old e = absurd cc
none_of false x old e = (refl, e)

module _ {X : Type 0} (test : X → Bool) where
  none_at : (from : ℕ) (xs : List X) (i : ℕ) (x : X) → position_from test from xs ≡ None → slice_get xs i ≡ Some x → test x ≡ false
  none_at from [] i x e f = absurd cc
  none_at from (y ∷ xs) zero x e f =
      let same : y ≡ x = cc in
      ap test (sym same) ∙ (none_of (test y) from (position_from test (from + 1) xs) e).0
  none_at from (y ∷ xs) (suc i) x e f = none_at (from + 1) xs i x (none_of (test y) from (position_from test (from + 1) xs) e).1 f

  module _ (last : X) where
    pub position_old : (i : ℕ) (xs : List X) → test last ≡ false → position_from test i (xs ++ last ∷ []) ≡ position_from test i xs
    position_old i [] none = rw none refl
    position_old i (x ∷ xs) none = ap (λ (o : Option ℕ). cond (test x) (Some i) o) (position_old (i + 1) xs none)

    pub position_new : (i : ℕ) (xs : List X) → position_from test i xs ≡ None → test last ≡ true → position_from test i (xs ++ last ∷ []) ≡ Some (i + length xs)
    position_new i [] none some = rw some (ap Some (let e : i ≡ i + 0 = omega arith in e))
    position_new i (x ∷ xs) none some =
        later_one (test x) i _ _ (i + length (x ∷ xs)) none (λ e. position_new (i + 1) xs e some ∙ ap Some (let e : i + 1 + length xs ≡ i + length (x ∷ xs) = omega arith in e))

    position_stays : (i : ℕ) (xs : List X) (n : ℕ) → position_from test i xs ≡ Some n → position_from test i (xs ++ last ∷ []) ≡ Some n
    position_stays i [] n e = absurd cc
    position_stays i (x ∷ xs) n e = earlier_one (test x) i _ _ n e (position_stays (i + 1) xs n)

-- ---- numbers of names

-- a name that has a number stands there
pub number_at : (names : List (List ℕ)) (name : List ℕ) (number : ℕ) → name_number names name ≡ Some number → (number < length names) × (slice_get names number ≡ Some name)
number_at names name number e =
    let s = position-Some (bytes_eq name) names number [] (position_from-zero (bytes_eq name) names ∙ e) in
    (s.0, slice_get-get_or names number [] s.0 ∙ ap Some (sym ((bytes_decides name _).0 s.1)))

-- a name that has no number stands nowhere
pub number_none : (names : List (List ℕ)) (name : List ℕ) (number : ℕ) → name_number names name ≡ None → slice_get names number ≡ Some name → ⊥
number_none names name number e f = false≢true (sym (none_at (bytes_eq name) 0 names number name e f) ∙ (bytes_decides name name).1 refl)

pub number_stays : (names : List (List ℕ)) (last name : List ℕ) (number : ℕ) → name_number names name ≡ Some number → name_number (names ++ last ∷ []) name ≡ Some number
number_stays names last name number e = position_stays (bytes_eq name) last 0 names number e

pub number_new : (names : List (List ℕ)) (name : List ℕ) → name_number names name ≡ None → name_number (names ++ name ∷ []) name ≡ Some (length names)
number_new names name none = position_new (bytes_eq name) name 0 names none ((bytes_decides name name).1 refl) ∙ ap Some (zero-add (length names))
