-- First occurrences as the numbers go on.
use Rattle.std.proofs.Common.{◌≡◌, ◌⊎◌, inl, inr, ℕ, zero, suc, ◌<◌, ◌≤◌, List, [], ◌∷◌, ◌++◌, length, get_or, subst, arith}
use Rattle.std.specs.List.{Contains}
use Rattle.std.proofs.lemmas.List.Elements.{Contains-get_or, Contains-append_left, Contains-push, Contains-push_cases}
use Rattle.std.proofs.lemmas.List.Quantifiers.{all_pairs_push}
use Rattle.law_strands.proofs.Places.{below_or_beyond}
use Rattle.race_pairs.specs.Firsts.{IsFirst, AreFirsts, Tells, none, hit, miss}

module _ {K : Type 0} (tells : ℕ → K → Type 0) where
  pub firsts_same : (last : ℕ) (numbers : List ℕ) → (IsFirst tells (suc last) → ⊥) → AreFirsts tells last numbers → AreFirsts tells (suc last) numbers
  firsts_same last numbers not f = record {
    rise = f.rise;
    each = λ number. (
      λ c. (let t = (f.each number).0 c in let le = t.0 in let more : number ≤ suc last = omega arith in (more, t.1)),
      λ t. (f.each number).1 (go number t.0 t.1 (below_or_beyond number (suc last)), t.1),
    );
  }
    where
      go : (number : ℕ) → number ≤ suc last → IsFirst tells number → (number < suc last) ⊎ (suc last ≤ number) → number ≤ last
      go number le first (inl lt) = omega arith
      go number le first (inr ge) = absurd (let is : number ≡ suc last = omega arith in not (subst (IsFirst tells) is first))

  pub firsts_more : (last : ℕ) (numbers : List ℕ) → IsFirst tells (suc last) → AreFirsts tells last numbers → AreFirsts tells (suc last) (numbers ++ (suc last ∷ []))
  firsts_more last numbers first f = record {
    rise = all_pairs_push (λ one other. one < other) numbers (suc last) f.rise below;
    each = λ number. (λ c. to number (Contains-push_cases numbers (suc last) number c), λ t. from number t.0 t.1 (below_or_beyond number (suc last)));
  }
    where
      below : (k : ℕ) (d : ℕ) → k < length numbers → get_or numbers k d < suc last
      below k d lt = let t = (f.each (get_or numbers k d)).0 (Contains-get_or numbers k d lt) in omega (arith, t.0)

      to : (number : ℕ) → Contains numbers number ⊎ (suc last ≡ number) → (number ≤ suc last) × IsFirst tells number
      to number (inl c) = let t = (f.each number).0 c in let le = t.0 in let more : number ≤ suc last = omega arith in (more, t.1)
      to number (inr e) = let more : number ≤ suc last = omega arith in (more, subst (IsFirst tells) e first)

      from : (number : ℕ) → number ≤ suc last → IsFirst tells number → (number < suc last) ⊎ (suc last ≤ number) → Contains (numbers ++ (suc last ∷ [])) number
      from number le is (inl lt) = let less : number ≤ last = omega arith in Contains-append_left numbers (suc last ∷ []) number ((f.each number).1 (less, is))
      from number le is (inr ge) = let e : suc last ≡ number = omega arith in subst (Contains (numbers ++ (suc last ∷ []))) e (Contains-push numbers (suc last))

  -- where a number tells one key, two firsts of one key are one
  pub one_first : (bound : ℕ) → ((number : ℕ) → number ≤ bound → (key other : K) → tells number key → tells number other → key ≡ other) →
      (one two : ℕ) (key : K) → one ≤ bound → two ≤ bound → IsFirst tells one → IsFirst tells two → tells one key → tells two key → one ≡ two
  one_first bound single one two key low also first second at_one at_two = go (below_or_beyond one two) (below_or_beyond two one)
    where
      go : (one < two) ⊎ (two ≤ one) → (two < one) ⊎ (one ≤ two) → one ≡ two
      go (inl lt) other = absurd (second.2 one lt (subst (tells one) (single two also key second.0 at_two second.1) at_one))
      go (inr ge) (inl lt) = absurd (first.2 two lt (subst (tells two) (single one low key first.0 at_one first.1) at_two))
      go (inr ge) (inr le) = omega arith

  -- a key that no first number tells is told by none
  pub no_first : (last : ℕ) (numbers : List ℕ) → AreFirsts tells last numbers → (key : K) →
      ((number : ℕ) → Contains numbers number → tells number key → ⊥) → (number : ℕ) → number ≤ last → tells number key → ⊥
  no_first last numbers f key never number le t = go (suc number) number (omega arith) le t
    where
      go : (bound n : ℕ) → n < bound → n ≤ last → tells n key → ⊥
      go zero n lt low at = absurd (omega (arith, lt))
      go (suc bound) n lt low at =
          never n ((f.each n).1 (low, (key, at, λ earlier less h. go bound earlier (omega (arith, less, lt)) (omega (arith, less, low)) h))) at

  pub tells_within : (key : K) (last times : ℕ) → Tells tells key last times → times ≤ last
  tells_within key _ _ none = omega arith
  tells_within key _ _ (hit {last = last} {times = times} t e) = let le = tells_within key last times t in omega arith
  tells_within key _ _ (miss {last = last} {times = times} t e) = let le = tells_within key last times t in omega arith

  pub tells_never : (key : K) (last : ℕ) → ((number : ℕ) → number ≤ last → tells number key → ⊥) → Tells tells key last 0
  tells_never key zero never = none
  tells_never key (suc last) never =
      miss (tells_never key last (λ number le t. (let more : number ≤ suc last = omega arith in never number more t)))
      (let le : suc last ≤ suc last = omega arith in never (suc last) le)
