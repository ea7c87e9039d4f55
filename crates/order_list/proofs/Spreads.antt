-- Part of a list of labels, given out anew.
use Rattle.std.proofs.Common.{◌≡◌, ℕ, ◌+◌, ◌<◌, ◌≤◌, List, length, get_or, set, refl, ◌∙◌, arith}
use Rattle.std.specs.List.Sorted.{IsStrictlyIncreasing}
use Rattle.std.proofs.lemmas.Grind.{common_steps}
use Rattle.std.proofs.lemmas.List.{length-set}

-- `count` labels from position `start` on are new: they rise by 2 at least, from `low` to `bound`
pub record IsSpread (old labels : List ℕ) (start count low bound : ℕ) : Type 0 where
  len : length labels ≡ length old
  low_bound : low ≤ bound
  before : (place : ℕ) → place < start → get_or labels place 0 ≡ get_or old place 0
  behind : (place : ℕ) → start + count ≤ place → get_or labels place 0 ≡ get_or old place 0
  above : (place : ℕ) → start ≤ place → place < start + count → low ≤ get_or labels place 0
  steps : (place : ℕ) → start ≤ place → place + 1 < start + count → get_or labels place 0 + 2 ≤ get_or labels (place + 1) 0
  pub below : (place : ℕ) → start ≤ place → place < start + count → get_or labels place 0 + 2 ≤ bound

pub spread-none : (old : List ℕ) (start low : ℕ) → IsSpread old old start 0 low low
spread-none old start low = record {
  len = refl;
  low_bound = omega arith;
  before = λ _ _. refl;
  behind = λ _ _. refl;
  above = λ place from to. absurd (omega arith);
  steps = λ place from to. absurd (omega arith);
  below = λ place from to. absurd (omega arith);
}

pub spread-more : (old labels : List ℕ) (start count low bound further : ℕ) → IsSpread old labels start count low bound → start + count < length labels → bound + 2 ≤ further → IsSpread old (set labels (start + count) bound) start (count + 1) low further
spread-more old labels start count low bound further s within more =
    record {
      len = length-set labels (start + count) bound ∙ s.len;
      low_bound = omega (arith, s.low_bound);
      before = λ place l. grind (arith, common_steps, s.before place);
      behind = λ place l. grind (arith, common_steps, s.behind place);
      above = λ place from to. grind (arith, common_steps, s.above place, s.low_bound);
      steps = λ place from to. grind (arith, common_steps, s.steps place, s.below place);
      below = λ place from to. grind (arith, common_steps, s.below place);
    }

-- new labels between the old ones around
module _ (old labels : List ℕ) (start count low bound : ℕ) (s : IsSpread old labels start count low bound) (limit : bound ≤ get_or old (start + count) 0) where
  pub spread-gap : (place : ℕ) → start ≤ place → place < start + count → get_or labels place 0 + 2 ≤ get_or labels (place + 1) 0
  spread-gap place from to = grind (arith, s.steps place, s.below place, s.behind (place + 1), limit)

  pub spread-rises : IsStrictlyIncreasing old → 0 < count → ((place : ℕ) → place + 1 ≡ start → get_or old place 0 < low) → IsStrictlyIncreasing labels
  spread-rises rises some before place within =
      grind (arith, s.before place, s.before (place + 1), before place, s.above (place + 1), spread-gap place, s.behind place, s.behind (place + 1), rises place, s.len)
