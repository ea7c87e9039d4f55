-- The functions that a text has: a name is known in the whole text where some line has the words `func`, that name and a name.
use Rattle.std.specs.Prelude.{ℕ, Bool, false, ◌&&◌, nat_lt, cond, Option, Some, None, List, [], ◌∷◌, length, codes}
use Rattle.std.specs.List.{list_all, before_first}
use Rattle.std.specs.Char.{is_ascii_lowercase}
use Rattle.std.specs.Str.{bytes_eq}
use Rattle.program_lines.specs.Scopes.{with_name}
use Rattle.text_words.specs.Text.{words, is_hash, is_name_byte, is_text_byte}

-- Whether a word is a name.
abbrev pub is_name_word : List ℕ → Bool
is_name_word [] = false
is_name_word (byte ∷ bytes) = is_ascii_lowercase byte && nat_lt (length bytes) 32 && list_all is_name_byte bytes

-- The name in these words, where they are `func`, a name and a name.
abbrev pub function_in : List (List ℕ) → Option (List ℕ)
function_in (first ∷ name ∷ parameter ∷ []) =
    cond (bytes_eq first (codes "func") && is_name_word name && is_name_word parameter) (Some name) None
function_in ws = None

-- The function that a line makes known. What stands in a comment on it does not count.
abbrev pub function_named : List ℕ → Option (List ℕ)
function_named line = cond (list_all is_text_byte (before_first is_hash line)) (function_in (words line)) None

-- Names and one more, where a line makes it known.
abbrev pub with_function : List (List ℕ) → Option (List ℕ) → List (List ℕ)
with_function names None = names
with_function names (Some name) = with_name names name

-- Names and those that the lines make known, in order.
abbrev pub functions_from : List (List ℕ) → List (List ℕ) → List (List ℕ)
functions_from names [] = names
functions_from names (line ∷ lines) = functions_from (with_function names (function_named line)) lines

-- The names that the lines behind the header make known: all lines, also one that is past the most that a program may have.
abbrev pub functions_of : List (List ℕ) → List (List ℕ)
functions_of lines = functions_from [] lines
