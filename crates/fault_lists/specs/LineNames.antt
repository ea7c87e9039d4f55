-- The names on a line, and what the first of them says that the line is.
use Rattle.std.specs.Prelude.{ℕ, Bool, false, ◌||◌, List, [], ◌∷◌, codes, cond, not}
use Rattle.std.specs.List.{onto_first, before_first}
use Rattle.std.specs.Char.{is_ascii_lowercase}
use Rattle.std.specs.Str.{bytes_eq}
use Rattle.text_words.specs.Text.{is_hash, is_name_byte}
use Rattle.fault_lists.specs.declared.opening.Opening.{Opening}
use Rattle.fault_lists.specs.declared.opening.Opening.TheVariants.{Declares, Begins, Ends, Turns, Assigns, Gets, Acts, Other}

-- a name begins with a lower-case letter
abbrev pub begins_name : List ℕ → Bool
begins_name [] = false
begins_name (byte ∷ bytes) = is_ascii_lowercase byte

-- what stands between names
abbrev pub is_between : ℕ → Bool
is_between byte = not (is_name_byte byte)

-- the pieces of a line between such bytes
abbrev pub name_pieces : List ℕ → List (List ℕ)
name_pieces [] = []
name_pieces (byte ∷ bytes) = cond (is_between byte) ([] ∷ name_pieces bytes) (onto_first byte (name_pieces bytes))

abbrev pub names_among : List (List ℕ) → List (List ℕ)
names_among [] = []
names_among (piece ∷ pieces) = cond (begins_name piece) (piece ∷ names_among pieces) (names_among pieces)

-- the names on a line, before its comment, whatever stands between them
abbrev pub names_on : List ℕ → List (List ℕ)
names_on line = names_among (name_pieces (before_first is_hash line))

-- the first of some names, and nothing where there is none
abbrev pub first_name : List (List ℕ) → List ℕ
first_name [] = []
first_name (name ∷ names) = name

abbrev pub is_declaring : List ℕ → Bool
is_declaring name = bytes_eq name (codes "mem") || bytes_eq name (codes "reducer")

abbrev pub is_beginning : List ℕ → Bool
is_beginning name = bytes_eq name (codes "func") || bytes_eq name (codes "if")

abbrev pub is_assigning : List ℕ → Bool
is_assigning name = bytes_eq name (codes "let") || bytes_eq name (codes "pfor")

abbrev pub is_getting : List ℕ → Bool
is_getting name = bytes_eq name (codes "read") || bytes_eq name (codes "get")

abbrev pub is_changing : List ℕ → Bool
is_changing name =
    bytes_eq name (codes "write") || bytes_eq name (codes "bump") || bytes_eq name (codes "update") || bytes_eq name (codes "put")

abbrev pub is_moving : List ℕ → Bool
is_moving name =
    bytes_eq name (codes "spawn") || bytes_eq name (codes "call") || bytes_eq name (codes "sync") || bytes_eq name (codes "return")

abbrev pub opening_of_part : List ℕ → Opening
opening_of_part name =
    cond (is_beginning name) Begins (cond (bytes_eq name (codes "end")) Ends (cond (bytes_eq name (codes "else")) Turns Other))

abbrev pub opening_of_request : List ℕ → Opening
opening_of_request name =
    cond (is_getting name) Gets (cond (is_changing name) Acts (cond (is_moving name) Acts (opening_of_part name)))

-- what a line is that begins with this name
abbrev pub opening_of : List ℕ → Opening
opening_of name = cond (is_declaring name) Declares (cond (is_assigning name) Assigns (opening_of_request name))

-- what a line is
abbrev pub opening_on : List ℕ → Opening
opening_on line = opening_of (first_name (names_on line))
