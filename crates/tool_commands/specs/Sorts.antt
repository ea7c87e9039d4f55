-- Whether a text is to mean a program or a trace.
use Rattle.std.specs.Prelude.{ℕ, Bool, false, ◌||◌, List, [], ◌∷◌, Option, Some, None, codes, cond}
use Rattle.std.specs.List.{list_all}
use Rattle.std.specs.Str.{bytes_eq}
use Rattle.text_words.specs.Text.{lines, words, is_text_byte}

abbrev pub first_among : List (List ℕ) → Option (List ℕ)
first_among [] = None
first_among (word ∷ words) = Some word

-- a word, unless a byte of it is one that no line may hold
abbrev pub text_word : Option (List ℕ) → Option (List ℕ)
text_word None = None
text_word (Some word) = cond (list_all is_text_byte word) (Some word) None

-- the first word of a line, where it has one; behind it there may be bytes that no line may hold
abbrev pub first_word : List ℕ → Option (List ℕ)
first_word line = text_word (first_among (words line))

-- a line that begins with this word declares a name
abbrev pub is_declaring : List ℕ → Bool
is_declaring word = bytes_eq word (codes "mem") || bytes_eq word (codes "reducer")

-- what a line's first word decides, and else what is decided behind it
abbrev pub decided : Option (List ℕ) → Bool → Bool
decided None behind = behind
decided (Some word) behind = cond (is_declaring word) behind (bytes_eq word (codes "func"))

-- among these lines the first word that declares nothing is `func`
abbrev pub comes_to_function : List (List ℕ) → Bool
comes_to_function [] = false
comes_to_function (line ∷ lines) = decided (first_word line) (comes_to_function lines)

abbrev pub behind_header : List (List ℕ) → List (List ℕ)
behind_header [] = []
behind_header (header ∷ lines) = lines

-- The text is to mean a program: the first word behind its header and its declarations is `func`. Else it is to mean a trace.
abbrev pub is_program_text : List ℕ → Bool
is_program_text text = comes_to_function (behind_header (lines text))
