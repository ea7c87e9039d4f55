-- Receipts whose numbers rise, and one more.
-- rs: receipts; at: a place among them; r: the receipt there; d: what a list gives where it has no receipt
use Rattle.std.proofs.Common.{◌≡◌, ℕ, zero, suc, ◌+◌, ◌-◌, ◌<◌, List, [], ◌∷◌, ◌++◌, length, take, get_or, Some, refl, ap, sym, subst, arith, ◌∙◌}
use Rattle.std.specs.List.{AllAdjacentBelow, slice_get}
use Rattle.std.proofs.lemmas.Option.{get_or_from_slice_get}
use Rattle.std.proofs.lemmas.List.{get_or_default}
use Rattle.std.proofs.lemmas.List.Sorted.{all_adjacent_more}
use Rattle.model_histories.specs.declared.answer.Entry.{Entry}
use Rattle.model_histories.specs.declared.reply.Receipt.{Receipt}
use Rattle.packed_history.specs.Entries.{entry_of}
use Rattle.locked_replay.specs.Receipts.{receipt_of, Rises, RisesAt}
use Rattle.locked_replay.proofs.Marking.{one_more}

abbrev pub RiseBelow : List Receipt → ℕ → Type 0
RiseBelow = AllAdjacentBelow (λ one next. one.number < next.number)

pub rise_more : (rs : List Receipt) (at : ℕ) → RiseBelow rs at → RisesAt rs at → RiseBelow rs (at + 1)
rise_more rs zero below here = λ k d low. absurd (omega (arith, low))
rise_more rs (suc at) below here = all_adjacent_more rs (λ one next. one.number < next.number) (suc at) (omega arith) below (here (omega arith))

pub falls : (rs : List Receipt) (at : ℕ) → at < length rs → (RisesAt rs at → ⊥) → Rises rs → ⊥
falls rs at low none all = none (λ positive d.
    let same : at - 1 + 1 ≡ at = omega (arith, positive) in
    subst (λ i. (get_or rs (at - 1) d).number < (get_or rs i d).number) same (all (at - 1) d (omega (arith, positive, low))))

-- the receipts up to this one
pub taken : (met rs : List Receipt) (at : ℕ) (r : Receipt) → at < length rs → slice_get rs at ≡ Some r → (met ++ take at rs) ++ r ∷ [] ≡ met ++ take (at + 1) rs
taken met rs at r low is =
    ap (λ (x : Receipt). (met ++ take at rs) ++ x ∷ []) (sym (get_or_from_slice_get rs at r r is)) ∙ one_more met rs at r low

-- there is a receipt at each place
pub some_there : (rs : List Receipt) (at : ℕ) → at < length rs → (r : Receipt) × (slice_get rs at ≡ Some r)
some_there [] at low = absurd (omega (arith, low))
some_there (r ∷ rs) zero low = (r, refl)
some_there (r ∷ rs) (suc at) low = some_there rs at (omega (arith, low))

-- the number of the receipt before a place, if there is one
abbrev pub IsBefore : List Receipt → ℕ → ℕ → Type 0
IsBefore rs at number = 0 < at → (d : Receipt) → (get_or rs (at - 1) d).number ≡ number

pub before_next : (rs : List Receipt) (at number : ℕ) → ((d : Receipt) → (get_or rs at d).number ≡ number) → IsBefore rs (at + 1) number
before_next rs at number is positive d =
    let same : at ≡ at + 1 - 1 = omega arith in
    subst (λ i. (get_or rs i d).number ≡ number) same (is d)

-- the receipt at a place rises where its number is greater than the one before
pub rises_told : (rs : List Receipt) (at before here : ℕ) → at < length rs → IsBefore rs at before →
    ((d : Receipt) → (get_or rs at d).number ≡ here) → ((0 < at → before < here) → RisesAt rs at) × (RisesAt rs at → 0 < at → before < here)
rises_told rs at before here low one next = (
  (λ less positive d. omega (arith, less positive, one positive d, next d)),
  (λ rises positive. let r = (some_there rs at low).0 in omega (arith, one positive r, next r, rises positive r)),
)

-- whether the receipt at a place is of the entry at another
module _ (rs : List Receipt) (at : ℕ) (r : Receipt) (es : List Entry) (place : ℕ) (e : Entry) (is : slice_get rs at ≡ Some r) where
  abbrev IsOf : Type 0
  IsOf = (e : Entry) (d : Receipt) → entry_of (get_or rs at d) ≡ get_or es place e

  pub is_told : IsOf → r ≡ receipt_of r.number (get_or es place e)
  is_told all = ap (receipt_of r.number) (ap entry_of (sym (get_or_from_slice_get rs at r r is)) ∙ all e r)

  pub not_told : place < length es → (IsOf → ⊥) → r ≡ receipt_of r.number (get_or es place e) → ⊥
  not_told low none here = none (λ f d. ap entry_of (get_or_from_slice_get rs at r d is ∙ here) ∙ get_or_default es place e f low)
