-- Branches: names for strands that are given when the strands begin.
use Rattle.std.specs.Prelude.{ℕ, suc, true, false, [], ◌∷◌, length}
use Rattle.model_strands.specs.Updated.{updated}
use Rattle.model_strands.specs.History.{split, History}

-- that of strand 0, or one side of a split, by the split's number
pub data Branch : Type 0 where
  trunk : Branch
  left right : (number : ℕ) → Branch

-- a child and its next get the two sides of their split, a join the branch of the strand that opened its block
abbrev pub branch : History → ℕ → Branch
branch [] = λ strand. trunk
branch (split strand child next join true ∷ history) =
    updated (updated (updated (branch history) child (left (suc (length history)))) next (right (suc (length history))))
    join (branch history strand)
branch (split strand child next join false ∷ history) =
    updated (updated (branch history) child (left (suc (length history)))) next (right (suc (length history)))
branch (_ ∷ history) = branch history
