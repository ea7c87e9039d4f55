-- The table of the digits of numbers below 100, and bytes put into a list.
use Rattle.std.proofs.Common.{◌≡◌, ℕ, zero, suc, ◌+◌, ◌-◌, ◌*◌, ◌/◌, ◌%◌, ◌<◌, ◌≤◌, Bool, true, ◌&&◌, T, eqb, List, [], ◌∷◌, ◌++◌, length, get_or, set, take, inl, inr, arith, ap, sym, ◌∙◌, append_assoc, length-set, eq-zero-or-pos, eqb→eq}
use Rattle.std.proofs.lemmas.List.{take_more_set, take-take, length-take-le}
use Rattle.std.proofs.lemmas.Grind.{take-set_at}
use lib.Ieee.Fits.{and_l, and_r}
use Rattle.std.proofs.Math.Seq.{take-append-add}
use Rattle.verdict_lines.specs.declared.slice_text.TheConstants.{PAIRS}

abbrev are_pairs : ℕ → Bool
are_pairs zero = true
are_pairs (suc p) = (eqb (get_or PAIRS (p * 2) 0) (48 + p / 10) && eqb (get_or PAIRS (p * 2 + 1) 0) (48 + p % 10)) && are_pairs p

below : (n p : ℕ) → T (are_pairs n) → p < n → (get_or PAIRS (p * 2) 0 ≡ 48 + p / 10) × (get_or PAIRS (p * 2 + 1) 0 ≡ 48 + p % 10)
below zero p t h = absurd (omega arith)
below (suc n) p t h =
    elim (eq-zero-or-pos (n - p)) [
      | inl z ↦ let e : p ≡ n = omega arith in let a = and_l _ (are_pairs n) t in rw e (eqb→eq _ _ (and_l _ _ a), eqb→eq _ _ (and_r _ _ a))
      | inr g ↦ below n p (and_r _ (are_pairs n) t) (omega arith)
    ]

-- the digits of each
pub pair_at : (p : ℕ) → p < 100 → (get_or PAIRS (p * 2) 0 ≡ 48 + p / 10) × (get_or PAIRS (p * 2 + 1) 0 ≡ 48 + p % 10)
pair_at p h = below 100 p tt h

-- two bytes put behind the first so many
pub two_put : (xs : List ℕ) (at one other : ℕ) → at + 2 ≤ length xs → take (at + 2) (set (set xs at one) (at + 1) other) ≡ take at xs ++ one ∷ other ∷ []
two_put xs at one other room =
    let kept = length-set xs at one in
    let last = take-set_at (set xs at one) (at + 1) (at + 2) other (omega arith) (omega arith) in
    rw (last, take_more_set xs at one (omega arith), append_assoc)

-- where bytes were put behind the first so many, a part of them
pub part_put : (new old bytes : List ℕ) (at part : ℕ) → at ≤ length old → part ≤ length bytes → take (at + length bytes) new ≡ take at old ++ bytes →
    take (at + part) new ≡ take at old ++ take part bytes
part_put new old bytes at part room within put =
    let whole = take-take (at + part) (at + length bytes) new (omega (arith, within)) in
    let seam = take-append-add (take at old) bytes part in
    let count : length (take at old) ≡ at = length-take-le at old room in
    sym whole ∙ ap (take (at + part)) put ∙ ap (λ n. take (n + part) (take at old ++ bytes)) (sym count) ∙ seam
