-- Addresses that come from another one by continuations and joins alone: of two of them one precedes the other.
-- a, b, c, v: addresses; w: a word
use Rattle.std.proofs.Common.{◌≡◌, ◌⊎◌, inl, inr, true, [], ◌∷◌, ◌++◌, refl, sym, ap, ◌∙◌, subst₂, append-nil, append_assoc}
use Rattle.model_strands.specs.Address.{Word, child, next, join, Address}
use Rattle.law_addresses.specs.Address.{reaches, IsPrefix}
use Rattle.law_addresses.proofs.Extensions.{reaches-append}
use Rattle.law_strands.proofs.Words.{Precedes, ◌▹◌}

abbrev pub HasNoChild : Address → Type 0
HasNoChild [] = Unit {0}
HasNoChild (child ∷ a) = ⊥
HasNoChild (next ∷ a) = HasNoChild a
HasNoChild (join ∷ a) = HasNoChild a

-- no child leads from a to b
abbrev pub GoesOnTo : Address → Address → Type 0
GoesOnTo a b = (rest : Address) × HasNoChild rest × (b ≡ a ++ rest)

pub goes_here : (a : Address) → GoesOnTo a a
goes_here a = ([], tt, sym (append-nil a))

pub goes_prefix : (a b : Address) → GoesOnTo a b → IsPrefix a b
goes_prefix a b t = (t.0, t.2)

none_more : (a : Address) (w : Word) → HasNoChild (w ∷ []) → HasNoChild a → HasNoChild (a ▹ w)
none_more [] w last none = last
none_more (child ∷ a) w last none = absurd none
none_more (next ∷ a) w last none = none_more a w last none
none_more (join ∷ a) w last none = none_more a w last none

pub goes_on : (a b c : Address) (w : Word) → HasNoChild (w ∷ []) → c ≡ b ▹ w → GoesOnTo a b → GoesOnTo a c
goes_on a b c w last e t = (t.0 ▹ w, none_more t.0 w last t.1, e ∙ (ap (λ z. z ▹ w) t.2 ∙ append_assoc a t.0 (w ∷ [])))

either_reaches : (a b : Address) → HasNoChild a → HasNoChild b → (reaches a b ≡ true) ⊎ (reaches b a ≡ true)
either_reaches [] [] none other = inl refl
either_reaches [] (w ∷ b) none other = inl refl
either_reaches (w ∷ a) [] none other = inr refl
either_reaches (child ∷ a) (w ∷ b) none other = absurd none
either_reaches (w ∷ a) (child ∷ b) none other = absurd other
either_reaches (next ∷ a) (next ∷ b) none other = either_reaches a b none other
either_reaches (next ∷ a) (join ∷ b) none other = inl refl
either_reaches (join ∷ a) (next ∷ b) none other = inr refl
either_reaches (join ∷ a) (join ∷ b) none other = either_reaches a b none other

pub either_precedes : (a b c : Address) → GoesOnTo a b → GoesOnTo a c → Precedes b c ⊎ Precedes c b
either_precedes a b c t k = elim (either_reaches t.0 k.0 t.1 k.1) [
  | inl r ↦ inl (subst₂ Precedes (sym t.2) (sym k.2) (reaches-append a t.0 k.0 ∙ r))
  | inr r ↦ inr (subst₂ Precedes (sym k.2) (sym t.2) (reaches-append a k.0 t.0 ∙ r))
]
