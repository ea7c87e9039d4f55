-- The two lists of strands and reserved joins that grow directly behind the spawner (Bender, Fineman, Gilbert and Leiserson 2004).
use Rattle.std.specs.Prelude.{ℕ, suc, true, false, cond, eqb, List, [], ◌∷◌}
use Rattle.model_strands.specs.History.{split, History}

-- the items with one more directly after another
unfoldable pub placed_after : ℕ → ℕ → List ℕ → List ℕ
placed_after after new [] = []
placed_after after new (item ∷ items) = cond (eqb item after) (item ∷ new ∷ items) (item ∷ placed_after after new items)

-- how many items stand before this one, or all of them where it is not there
unfoldable pub place_in : ℕ → List ℕ → ℕ
place_in wanted [] = 0
place_in wanted (item ∷ items) = cond (eqb item wanted) 0 (suc (place_in wanted items))

-- the spawner, its child, its next, and behind a block's first spawner the join
abbrev pub english_items : History → List ℕ
english_items [] = 0 ∷ []
english_items (split strand child next join true ∷ history) =
    placed_after next join (placed_after child next (placed_after strand child (english_items history)))
english_items (split strand child next join false ∷ history) = placed_after child next (placed_after strand child (english_items history))
english_items (_ ∷ history) = english_items history

-- the spawner, its next, its child, and behind a block's first spawner the join
abbrev pub hebrew_items : History → List ℕ
hebrew_items [] = 0 ∷ []
hebrew_items (split strand child next join true ∷ history) =
    placed_after child join (placed_after strand next (placed_after strand child (hebrew_items history)))
hebrew_items (split strand child next join false ∷ history) = placed_after strand next (placed_after strand child (hebrew_items history))
hebrew_items (_ ∷ history) = hebrew_items history
