-- One more access at the end of the list.
use Rattle.std.proofs.Common.{◌≡◌, ◌≢◌, ◌⊎◌, ◌↔◌, inl, inr, ℕ, ◌<◌, Bool, true, false, IsTrue, cond, Option, Some, None, List, [], ◌∷◌, ◌++◌, Contains, refl, sym, ap, ◌∙◌, subst, append_assoc, arith}
use Rattle.std.proofs.lemmas.List.Elements.{Contains-append_left, Contains-append_right, Contains-append_cases}
use Rattle.model_accesses.specs.declared.kind.Kind.{Kind}
use Rattle.model_strands.specs.Address.{Word}
use Rattle.law_addresses.specs.Address.{before, english, hebrew}
use Rattle.law_addresses.specs.Extremes.{IsLast}
use Rattle.law_addresses.proofs.Orders.{IsRank, before-irreflexive}
use Rattle.law_addresses.proofs.Extremes.{last-more, last-alike, contains-head, contains-cases}
use Rattle.model_strands.specs.History.{History}
use Rattle.model_strands.specs.Addresses.{address}
use Rattle.shadow_history.specs.declared.cell.Extremes.{Extremes}
use Rattle.model_accesses.specs.Accesses.{Access}
use Rattle.shadow_history.specs.Accesses.{IsAdded, IsExtreme}
use Rattle.shadow_history.specs.Shadow.{AreKept}

-- a test that failed, of what it tells
pub not_later : (answer order : Bool) → answer ≡ false → (IsTrue answer ↔ IsTrue order) → order ≡ false
not_later answer false e tells = refl
not_later answer true e tells = let t : answer ≡ true = tells.1 refl in absurd (cc)

none-listed : {X : Type 0} (x : X) → Contains [] x → ⊥
none-listed x h = let below : h.0 < 0 = h.1 in absurd (omega arith)

-- what the longer list has is in the list, or the new one
pub listed-cases : (accesses : List Access) (new access : Access) → Contains (accesses ++ new ∷ []) access → Contains accesses access ⊎ (access ≡ new)
listed-cases accesses new access h = elim (Contains-append_cases accesses (new ∷ []) access h) [
  | inl k ↦ inl k
  | inr k ↦ elim (contains-cases new access [] k) [ inl e ↦ inr e | inr none ↦ absurd (none-listed access none) ]
]

added-cases : (accesses : List Access) (new : Access) (location : ℕ) (kind : Kind) (access : Access) →
    IsAdded (accesses ++ new ∷ []) location kind access → IsAdded accesses location kind access ⊎ (access ≡ new)
added-cases accesses new location kind access h =
    elim (listed-cases accesses new access h.0) [ inl k ↦ inl (k, h.1, h.2) | inr e ↦ inr e ]

added-still : (accesses : List Access) (new : Access) (location : ℕ) (kind : Kind) (access : Access) →
    IsAdded accesses location kind access → IsAdded (accesses ++ new ∷ []) location kind access
added-still accesses new location kind access h = (Contains-append_left accesses (new ∷ []) access h.0, h.1, h.2)

added-now : (accesses : List Access) (new : Access) → IsAdded (accesses ++ new ∷ []) new.location new.kind new
added-now accesses new = (Contains-append_right accesses (new ∷ []) new (contains-head new []), refl, refl)

-- an extreme is one still where the new access is not later than it, or is of another location or kind
pub extreme-stays : (rank : Word → ℕ) (history : History) (accesses : List Access) (access new : Access) →
    (new.location ≡ access.location → new.kind ≡ access.kind → before rank (address history access.strand) (address history new.strand) ≡ false) →
    IsExtreme rank history accesses access → IsExtreme rank history (accesses ++ new ∷ []) access
extreme-stays rank history accesses access new not_later extreme = record {
  last = record {
    is_member = added-still accesses new access.location access.kind access extreme.last.is_member;
    none_after = λ other h. elim (added-cases accesses new access.location access.kind other h) [
      | inl k ↦ extreme.last.none_after other k
      | inr e ↦ rw e (not_later (sym (ap (λ x. x.location) e) ∙ h.1) (sym (ap (λ x. x.kind) e) ∙ h.2))
    ];
  };
  earliest =
      let (front, back, e, none) = extreme.earliest in
      (front, back ++ new ∷ [], ap (λ xs. xs ++ new ∷ []) e ∙ append_assoc front (access ∷ back) (new ∷ []), none);
}

-- a new access that is later is the extreme of its location and kind
pub extreme-moves : (rank : Word → ℕ) → IsRank rank → (history : History) (accesses : List Access) (access new : Access) →
    new.location ≡ access.location → new.kind ≡ access.kind → before rank (address history access.strand) (address history new.strand) ≡ true →
    IsExtreme rank history accesses access → IsExtreme rank history (accesses ++ new ∷ []) new
extreme-moves rank ranks history accesses access new same_location same_kind later extreme = record { last = moved; earliest = (accesses, [], refl, first) }
  where
    Old : Access → Type 0
    Old = IsAdded accesses access.location access.kind

    forward : (other : Access) → Old other ⊎ (other ≡ new) → IsAdded (accesses ++ new ∷ []) new.location new.kind other
    forward other (inl k) = added-still accesses new new.location new.kind other (k.0, k.1 ∙ sym same_location, k.2 ∙ sym same_kind)
    forward other (inr e) = subst (IsAdded (accesses ++ new ∷ []) new.location new.kind) (sym e) (added-now accesses new)

    backward : (other : Access) → IsAdded (accesses ++ new ∷ []) new.location new.kind other → Old other ⊎ (other ≡ new)
    backward other h = elim (added-cases accesses new new.location new.kind other h) [
      | inl k ↦ inl (k.0, k.1 ∙ same_location, k.2 ∙ same_kind)
      | inr e ↦ inr e
    ]

    of_both : IsLast rank (λ other. address history other.strand) (λ other. Old other ⊎ (other ≡ new)) new
    of_both = subst (λ t. IsLast rank (λ other. address history other.strand) (λ other. Old other ⊎ (other ≡ new)) (cond t new access)) later
        (last-more (λ other. address history other.strand) Old rank ranks access new extreme.last)

    moved : IsLast rank (λ other. address history other.strand) (IsAdded (accesses ++ new ∷ []) new.location new.kind) new
    moved = last-alike rank (λ other. address history other.strand) (λ other. Old other ⊎ (other ≡ new)) (IsAdded (accesses ++ new ∷ []) new.location new.kind)
        forward backward new of_both

    first : (other : Access) → IsAdded accesses new.location new.kind other → other.strand ≢ new.strand
    first other k e =
        let none = extreme.last.none_after other (k.0, k.1 ∙ same_location, k.2 ∙ same_kind) in
        let same : before rank (address history access.strand) (address history other.strand) ≡ true = rw e later in
        cc

-- the first access of its location and kind is the extreme
pub extreme-first : (rank : Word → ℕ) (history : History) (accesses : List Access) (new : Access) →
    ((access : Access) → IsAdded accesses new.location new.kind access → ⊥) → IsExtreme rank history (accesses ++ new ∷ []) new
extreme-first rank history accesses new none = record {
  last = record {
    is_member = added-now accesses new;
    none_after = λ other h. elim (added-cases accesses new new.location new.kind other h) [
      | inl k ↦ absurd (none other k)
      | inr e ↦ rw e (before-irreflexive rank (address history new.strand))
    ];
  };
  earliest = (accesses, [], refl, λ other k e. none other k);
}

-- what is kept of another location or kind is right still
pub kept-elsewhere : (history : History) (accesses : List Access) (location : ℕ) (kind : Kind) (new : Access) →
    (new.location ≡ location → new.kind ≡ kind → ⊥) → (kept : Option Extremes) →
    AreKept history accesses location kind kept → AreKept history (accesses ++ new ∷ []) location kind kept
kept-elsewhere history accesses location kind new elsewhere None none = λ access h.
    elim (added-cases accesses new location kind access h) [
      | inl k ↦ none access k
      | inr e ↦ elsewhere (sym (ap (λ x. x.location) e) ∙ h.1) (sym (ap (λ x. x.kind) e) ∙ h.2)
    ]
kept-elsewhere history accesses location kind new elsewhere (Some extremes) are = record {
  english = extreme-stays english history accesses _ new (λ e k. absurd (elsewhere e k)) are.english;
  hebrew = extreme-stays hebrew history accesses _ new (λ e k. absurd (elsewhere e k)) are.hebrew;
}
