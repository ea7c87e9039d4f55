-- The receipts of entries by their numbers.
use Rattle.std.proofs.Common.{◌≡◌, ℕ, zero, suc, ◌+◌, ◌<◌, ◌≤◌, ◌==◌, cond, ◌⊎◌, inl, inr, List, [], ◌∷◌, length, get_or, refl, ap, arith, ◌∙◌}
use Rattle.std.specs.List.{sum_by}
use Rattle.std.proofs.lemmas.Bool.Decides.{nat_tests}
use Rattle.std.proofs.lemmas.List.Sums.{sum_by-cons}
use Rattle.model_histories.specs.declared.reply.Receipt.{Receipt}
use Rattle.model_histories.specs.declared.answer.Entry.{Entry}
use Rattle.locked_replay.specs.Receipts.{numbered, receipt_of}

pub length-numbered : (n : ℕ) (es : List Entry) → length (numbered n es) ≡ length es
length-numbered n [] = refl
length-numbered n (e ∷ es) = let h = length-numbered (n + 1) es in omega arith

pub numbered_at : (n : ℕ) (es : List Entry) (i : ℕ) (d : Receipt) (e : Entry) → i < length es → get_or (numbered n es) i d ≡ receipt_of (n + i) (get_or es i e)
numbered_at n [] i d e low = absurd (omega arith)
numbered_at n (x ∷ es) zero d e low = ap (λ k. receipt_of k x) (omega arith)
numbered_at n (x ∷ es) (suc i) d e low = let k : (n + 1) + i ≡ n + suc i = omega arith in numbered_at (n + 1) es i d e (omega arith) ∙ ap (λ j. receipt_of j (get_or es i e)) k

-- 1 where the receipt has this number
abbrev pub has_number : ℕ → Receipt → ℕ
has_number k r = cond (r.number == k) 1 0

pub this_number : (k : ℕ) (r : Receipt) → r.number ≡ k → has_number k r ≡ 1
this_number k r e = grind (arith, nat_tests)

other_number : (k : ℕ) (r : Receipt) → (r.number ≡ k → ⊥) → has_number k r ≡ 0
other_number k r other = grind (arith, nat_tests)

one_number : (k : ℕ) (r : Receipt) → has_number k r ≤ 1
one_number k r = grind (arith, nat_tests)

numbered_above : (k n : ℕ) (es : List Entry) → k < n → sum_by (has_number k) (numbered n es) ≡ 0
numbered_above k n [] low = refl
numbered_above k n (e ∷ es) low =
    let h = numbered_above k (n + 1) es (omega arith) in
    omega (arith, h, sum_by-cons (has_number k) (receipt_of n e) (numbered (n + 1) es), other_number k (receipt_of n e) (λ same. omega (arith, same)))

from_or_above : (k n : ℕ) → (n < k) ⊎ (k < n + 1)
from_or_above k n = grind arith

-- no number comes twice
pub numbered_once : (k n : ℕ) (es : List Entry) → sum_by (has_number k) (numbered n es) ≤ 1
numbered_once k n [] = omega arith
numbered_once k n (e ∷ es) =
    let here = sum_by-cons (has_number k) (receipt_of n e) (numbered (n + 1) es) in
    elim (from_or_above k n) [
      | inl later ↦ let h = numbered_once k (n + 1) es in omega (arith, here, h, other_number k (receipt_of n e) (λ same. omega (arith, same, later)))
      | inr not_later ↦ omega (arith, here, one_number k (receipt_of n e), numbered_above k (n + 1) es not_later)
    ]
