-- First occurrences, and how often something occurs, among numbered things that tell keys.
use Rattle.std.specs.Prelude.{◌↔◌, ◌<◌, ◌≤◌, ℕ, suc, List}
use Rattle.std.specs.List.{AllPairs, Contains}

-- the thing with this number tells a key that none with a lower number tells
abbrev pub IsFirst : {K : Type 0} → (ℕ → K → Type 0) → ℕ → Type 0
IsFirst {K} tells number = (key : K) × tells number key × ((earlier : ℕ) → earlier < number → tells earlier key → ⊥)

-- these are, in rising order, the numbers up to a last one at which a key is told for the first time
pub record AreFirsts {K : Type 0} (tells : ℕ → K → Type 0) (last : ℕ) (numbers : List ℕ) : Type 0 where
  pub rise : AllPairs (λ one other. one < other) numbers
  pub each : (number : ℕ) → Contains numbers number ↔ ((number ≤ last) × IsFirst tells number)

-- so many of the numbers from 1 to a last one tell the key
pub data Tells {K : Type 0} (tells : ℕ → K → Type 0) (key : K) : ℕ → ℕ → Type 0 where
  none : Tells tells key 0 0
  hit : {last times : ℕ} → Tells tells key last times → tells (suc last) key → Tells tells key (suc last) (suc times)
  miss : {last times : ℕ} → Tells tells key last times → (tells (suc last) key → ⊥) → Tells tells key (suc last) times
