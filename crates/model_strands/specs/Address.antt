-- The address of a strand: the words that lead to it from the first strand of the program.
use Rattle.std.specs.Prelude.{Bool, true, false, cond, List, [], ◌∷◌, ◌++◌}

-- to the child of a spawn, to what goes on beside it, or to the join of a block
pub data Word : Type 0 where
  child : Word
  next : Word
  join : Word

-- the words from the first strand on, whose own address is empty
abbrev pub Address : Type 0
Address = List Word

-- the address with one more word at its end
abbrev pub extended : Address → Word → Address
extended a word = a ++ (word ∷ [])

-- the two are one word
abbrev pub same_word : Word → Word → Bool
same_word child child = true
same_word next next = true
same_word join join = true
same_word _ _ = false

-- how one address stands to another, word by word from the front
pub data Difference : Type 0 where
  equal : Difference
  prefix : Difference
  extension : Difference
  differ : Word → Word → Difference

-- the first address is that prefix, or that extension, of the second, or differs from it at a place where it has the first of the two words
abbrev pub first_difference : Address → Address → Difference
first_difference [] [] = equal
first_difference [] (other ∷ b) = prefix
first_difference (word ∷ a) [] = extension
first_difference (word ∷ a) (other ∷ b) = cond (same_word word other) (first_difference a b) (differ word other)

-- at such a difference the two are one address
abbrev pub same_at : Difference → Bool
same_at equal = true
same_at _ = false
