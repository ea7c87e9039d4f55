-- Texts that are made one after another.
use Rattle.std.specs.Prelude.{ℕ, ◌≡◌, false, List, [], Some}
use Rattle.race_explanations.specs.declared.pieces.Pieces.{Pieces}

-- The text so far is cut off, where there was memory for it and for those before it, and the next one begins.
pub record Cuts (old new : Pieces) (piece : List ℕ) : Type 0 where
  pub begins : new.text ≡ Some []
  pub cut : new.is_short ≡ false → (old.is_short ≡ false) × (old.text ≡ Some piece)
