-- Items whose marks are set.
use Rattle.std.proofs.Common.{◌≡◌, ℕ, zero, suc, ◌<◌, ◌≤◌, Bool, true, false, List, [], ◌∷◌, length, get_or, replicate, refl, ap, arith}
use Rattle.std.proofs.Math.ListN.{set}
use Rattle.std.specs.List.{sum_by}
use Rattle.std.specs.List.Sorted.{IsPermutation}
use Rattle.std.proofs.lemmas.List.Sums.{sum_by-cons}
use Rattle.std.proofs.lemmas.List.Sorted.{IsPermutation-refl, IsPermutation-trans, IsPermutation-cons, IsPermutation-append_left, IsPermutation-append_comm}
use Rattle.locked_replay.specs.Receipts.{marked}

module _ {X : Type 0} where
  pub marked_none : (n : ℕ) (xs : List X) → marked (replicate n false) xs ≡ []
  marked_none zero xs = refl
  marked_none (suc n) [] = refl
  marked_none (suc n) (x ∷ xs) = marked_none n xs

  pub marked_fewer : (ms : List Bool) (xs : List X) → length (marked ms xs) ≤ length xs
  marked_fewer [] xs = omega arith
  marked_fewer (m ∷ ms) [] = omega arith
  marked_fewer (true ∷ ms) (x ∷ xs) = let h = marked_fewer ms xs in omega arith
  marked_fewer (false ∷ ms) (x ∷ xs) = let h = marked_fewer ms xs in omega arith

  -- as many marked items as items are all of them
  pub marked_all : (ms : List Bool) (xs : List X) → length (marked ms xs) ≡ length xs → marked ms xs ≡ xs
  marked_all [] [] many = refl
  marked_all [] (x ∷ xs) many = absurd (omega arith)
  marked_all (m ∷ ms) [] many = refl
  marked_all (true ∷ ms) (x ∷ xs) many = ap (λ l. x ∷ l) (marked_all ms xs (omega arith))
  marked_all (false ∷ ms) (x ∷ xs) many = let h = marked_fewer ms xs in absurd (omega arith)

  front_swapped : (x y : X) (l : List X) → IsPermutation (x ∷ y ∷ l) (y ∷ x ∷ l)
  front_swapped x y l = IsPermutation-append_left l (x ∷ y ∷ []) (y ∷ x ∷ []) (IsPermutation-append_comm (x ∷ []) (y ∷ []))

  -- one more mark
  pub marked_more : (ms : List Bool) (xs : List X) (i : ℕ) (m : Bool) (d : X) → length ms ≡ length xs → i < length xs → get_or ms i m ≡ false →
      IsPermutation (get_or xs i d ∷ marked ms xs) (marked (set ms i true) xs)
  marked_more [] [] i m d same low unset = absurd (omega arith)
  marked_more [] (x ∷ xs) i m d same low unset = absurd (omega arith)
  marked_more (b ∷ ms) [] i m d same low unset = absurd (omega arith)
  marked_more (true ∷ ms) (x ∷ xs) zero m d same low unset = absurd (cc)
  marked_more (false ∷ ms) (x ∷ xs) zero m d same low unset = IsPermutation-refl (x ∷ marked ms xs)
  marked_more (true ∷ ms) (x ∷ xs) (suc i) m d same low unset =
      let h = marked_more ms xs i m d (omega arith) (omega arith) unset in
      IsPermutation-trans _ _ _ (front_swapped (get_or xs i d) x (marked ms xs)) (IsPermutation-cons x _ _ h)
  marked_more (false ∷ ms) (x ∷ xs) (suc i) m d same low unset = marked_more ms xs i m d (omega arith) (omega arith) unset

  -- an item whose mark is set is among them
  pub marked_has : (f : X → ℕ) (ms : List Bool) (xs : List X) (i : ℕ) (m : Bool) (d : X) → length ms ≡ length xs → i < length xs → get_or ms i m ≡ true →
      f (get_or xs i d) ≤ sum_by f (marked ms xs)
  marked_has f [] [] i m d same low is = absurd (omega arith)
  marked_has f [] (x ∷ xs) i m d same low is = absurd (omega arith)
  marked_has f (b ∷ ms) [] i m d same low is = absurd (omega arith)
  marked_has f (true ∷ ms) (x ∷ xs) zero m d same low is = omega (arith, sum_by-cons f x (marked ms xs))
  marked_has f (false ∷ ms) (x ∷ xs) zero m d same low is = absurd (cc)
  marked_has f (true ∷ ms) (x ∷ xs) (suc i) m d same low is =
      let h = marked_has f ms xs i m d (omega arith) (omega arith) is in omega (arith, h, sum_by-cons f x (marked ms xs))
  marked_has f (false ∷ ms) (x ∷ xs) (suc i) m d same low is = marked_has f ms xs i m d (omega arith) (omega arith) is
