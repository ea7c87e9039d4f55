-- The addresses of strands and reserved joins.
use Rattle.std.specs.Prelude.{ℕ, true, false, [], ◌∷◌}
use Rattle.model_strands.specs.Address.{Address, child, next, join, extended}
use Rattle.model_strands.specs.Updated.{updated}
use Rattle.model_strands.specs.History.{split, History}

-- strand 0 has the empty address, a child or a next the spawner's and `child` or `next`, a join that of its block's first spawner and
-- `join`
abbrev pub address : History → ℕ → Address
address [] = λ strand. []
address (split strand the_child the_next the_join true ∷ history) =
    updated
    (updated (updated (address history) the_child (extended (address history strand) child))
    the_next (extended (address history strand) next))
    the_join (extended (address history strand) join)
address (split strand the_child the_next the_join false ∷ history) =
    updated (updated (address history) the_child (extended (address history strand) child))
    the_next (extended (address history strand) next)
address (_ ∷ history) = address history
