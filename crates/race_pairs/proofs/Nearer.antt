-- The least above a bound, with one number more.
use Rattle.std.proofs.Common.{◌≡◌, ◌⊎◌, inl, inr, ℕ, ◌<◌, ◌≤◌, min, List, [], ◌∷◌, ◌++◌, Some, subst, arith}
use Rattle.std.specs.List.{Contains}
use Rattle.std.proofs.lemmas.List.Elements.{All-push, Contains-append_left, Contains-push}
use Rattle.law_strands.proofs.Places.{below_or_beyond}
use Rattle.race_pairs.specs.Onward.{IsLeast}

pub least_nearer : (bound other number found : ℕ) → bound < number → found ≡ min other number → (numbers : List ℕ) → IsLeast bound numbers (Some other) →
    IsLeast bound (numbers ++ (number ∷ [])) (Some found)
least_nearer bound other number found lt is numbers h = (
  go (below_or_beyond number other),
  (let above = h.1 in omega arith),
  All-push (λ (n : ℕ). bound < n → found ≤ n) numbers number (λ k d within above. (let le = h.2 k d within above in omega arith)) (λ above. omega arith),
)
  where
    go : (number < other) ⊎ (other ≤ number) → Contains (numbers ++ (number ∷ [])) found
    go (inl less) = let e : number ≡ found = omega arith in subst (Contains (numbers ++ (number ∷ []))) e (Contains-push numbers number)
    go (inr ge) = let e : other ≡ found = omega arith in subst (Contains (numbers ++ (number ∷ []))) e (Contains-append_left numbers (number ∷ []) other h.0)
