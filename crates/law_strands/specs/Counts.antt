-- How many children of a block are outstanding, counted at its spawns and at the returns of its children.
use Rattle.std.specs.Prelude.{ℕ, suc, pred, [], ◌∷◌}
use Rattle.model_strands.specs.Updated.{updated}
use Rattle.model_strands.specs.History.{split, ended, ended_joined, History}
use Rattle.model_strands.specs.Blocks.{Stack, spawned, stack}

-- one less for the block that a child which stands there returns to
abbrev pub one_less : Stack → (ℕ → ℕ) → ℕ → ℕ
one_less (spawned number join) counts = updated counts join (pred (counts join))
one_less _ counts = counts

-- by the block's join
abbrev pub children_left : History → ℕ → ℕ
children_left [] = λ join. 0
children_left (split strand child next join first ∷ history) = updated (children_left history) join (suc (children_left history join))
children_left (ended strand ∷ history) = one_less (stack history strand) (children_left history)
children_left (ended_joined strand join ∷ history) = one_less (stack history strand) (children_left history)
children_left (_ ∷ history) = children_left history
