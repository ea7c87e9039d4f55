-- Words with blanks for numbers.
use Rattle.std.specs.Prelude.{ℕ, ◌==◌, List, [], ◌∷◌, ◌++◌, decimal, cond}

-- words with the numbers one by one in their blanks, each of which is a `#`
abbrev pub filled : List ℕ → List ℕ → List ℕ
filled [] numbers = []
filled (byte ∷ words) [] = byte ∷ filled words []
filled (byte ∷ words) (number ∷ numbers) = cond (byte == 35) (decimal number ++ filled words numbers) (byte ∷ filled words (number ∷ numbers))
