-- What is known of strands and edges after some entries.
use Rattle.std.specs.Prelude.{◌≡◌, ◌<◌, ℕ, List, [], ◌∷◌, length, slice_index_or, Option, Some, None, Bool, true, false}
use Rattle.model_strands.specs.History.{History}
use Rattle.model_strands.specs.Strands.{status, unused}
use Rattle.model_strands.specs.Blocks.{stack, enclosing}
use Rattle.model_strands.specs.Legal.{Legal}
use Rattle.model_histories.specs.Entries.{Entries}
use Rattle.model_histories.specs.Shapes.{Shape}
use Rattle.model_histories.specs.Legal.{IsLegal}
use Rattle.dag_drawing.specs.declared.drawing.Edge.{Edge}
use Rattle.dag_drawing.specs.Arrows.{arrows, has_begun}

-- the history is legal, in some shape
abbrev pub IsLegalHistory : Entries → Type 0
IsLegalHistory entries = (shape : Shape) × IsLegal shape entries

-- the marks of the child and the next of a spawn and, where it opens a block, of its join
abbrev pub marks_of : Bool → List Bool
marks_of true = true ∷ true ∷ false ∷ []
marks_of false = true ∷ true ∷ []

-- and the blocks round them: the join stands where the spawner stood
abbrev pub blocks_of : Bool → ℕ → Option ℕ → List (Option ℕ)
blocks_of true join outer = Some join ∷ Some join ∷ outer ∷ []
blocks_of false join outer = Some join ∷ Some join ∷ []

-- which numbers have begun, the blocks round them, and the edges
pub record IsWalk (begun : List Bool) (blocks : List (Option ℕ)) (edges : List Edge) (history : History) : Type 0 where
  pub legal : Legal history
  pub marks : length begun ≡ unused history
  pub places : length blocks ≡ unused history
  pub each_mark : (number : ℕ) → number < unused history → slice_index_or begun number false ≡ has_begun (status history number)
  pub each_block : (number : ℕ) → number < unused history → slice_index_or blocks number None ≡ enclosing (stack history number)
  pub arrows_are : edges ≡ arrows history
