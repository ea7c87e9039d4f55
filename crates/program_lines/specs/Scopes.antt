-- What a line of a program is read behind: the declarations, the functions of the text, and the registers of the open function.
use Rattle.std.specs.Prelude.{◌≡◌, ℕ, ◌≤◌, Option, Some, List, [], ◌∷◌, ◌++◌, codes, cond}
use Rattle.std.specs.List.{list_any, position_from}
use Rattle.std.specs.Str.{bytes_eq}
use Rattle.text_words.specs.Values.{Known}
use Rattle.text_words.specs.Names.{IsFresh as IsUndeclaredName}

-- How many registers a function has at most, other than `ok`.
abbrev pub max_registers : ℕ
max_registers = 16

-- How many names of functions are kept at most: each has a number of 32 bits.
abbrev pub max_functions_named : ℕ
max_functions_named = 4294967295

-- The functions are those of the whole text, in the order of their lines. So many of them have begun on earlier lines. The registers are
-- those of the open function other than `ok`; outside a function there are none.
pub record NameScope : Type 0 where
  pub known : Known
  pub functions : List (List ℕ)
  pub begun : ℕ
  pub registers : List (List ℕ)

abbrev pub ok_word : List ℕ
ok_word = codes "ok"

-- The number of the register of that name: `ok` is 0, the others are numbered from 1.
abbrev pub register_named : List (List ℕ) → List ℕ → Option ℕ
register_named registers name = cond (bytes_eq name ok_word) (Some 0) (position_from (bytes_eq name) 1 registers)

-- The number of the function of that name; they are numbered from 0.
abbrev pub function_named : List (List ℕ) → List ℕ → Option ℕ
function_named functions name = position_from (bytes_eq name) 0 functions

-- The names and one more, if it is not there.
abbrev pub with_name : List (List ℕ) → List ℕ → List (List ℕ)
with_name names name = cond (list_any (bytes_eq name) names) names (names ++ name ∷ [])

-- No function of that name has begun.
abbrev pub HasNotBegun : NameScope → List ℕ → Type 0
HasNotBegun scope name = (number : ℕ) → function_named scope.functions name ≡ Some number → scope.begun ≤ number

-- Memories, reducers and functions share one space of names, and this name is none of theirs so far.
abbrev pub IsFresh : NameScope → List ℕ → Type 0
IsFresh scope name = IsUndeclaredName scope.known name × HasNotBegun scope name
