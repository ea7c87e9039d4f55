-- Lines of a text, words of a line, and what a word alone can be: a name or a number.
use Rattle.std.specs.Prelude.{◌≡◌, ℕ, ◌<◌, ◌≤◌, ◌==◌, Bool, true, false, ◌||◌, IsTrue, List, [], ◌∷◌, length, map, filter, cond}
use Rattle.std.specs.List.{All, slice_split, onto_first, before_first}
use Rattle.std.specs.Char.{is_ascii_digit, is_ascii_lowercase}
use Rattle.std.specs.Int.{is_in_range}
use Rattle.std.specs.Str.{all_ascii_digits}
use Rattle.std.specs.Str.Lines.{strip_carriage_return}
use Rattle.std.specs.Str.Parse.{digits_value}

-- ---- lines

-- The pieces of a text between its line feeds. Behind a last line feed there is none.
abbrev pub pieces : List ℕ → List (List ℕ)
pieces [] = []
pieces (byte ∷ bytes) = cond (byte == 10) ([] ∷ pieces bytes) (onto_first byte (pieces bytes))

-- The lines of a text: its pieces, each without a carriage return at its end.
abbrev pub lines : List ℕ → List (List ℕ)
lines text = map strip_carriage_return (pieces text)

-- The bytes that a line may hold.
abbrev pub is_text_byte : ℕ → Bool
is_text_byte byte = byte == 9 || is_in_range 32 126 byte

abbrev pub IsTextLine : List ℕ → Type 0
IsTextLine line = All (λ byte. IsTrue (is_text_byte byte)) line

-- ---- words

abbrev pub is_hash : ℕ → Bool
is_hash byte = byte == 35

abbrev pub is_blank : ℕ → Bool
is_blank byte = byte == 32 || byte == 9

abbrev pub is_nonempty : List ℕ → Bool
is_nonempty [] = false
is_nonempty (byte ∷ bytes) = true

-- What stands between blanks.
abbrev pub split_words : List ℕ → List (List ℕ)
split_words line = filter is_nonempty (slice_split is_blank line)

-- The words of a line, which stand before its comment.
abbrev pub words : List ℕ → List (List ℕ)
words line = split_words (before_first is_hash line)

-- ---- names and numbers

abbrev pub is_name_byte : ℕ → Bool
is_name_byte byte = is_ascii_lowercase byte || is_ascii_digit byte || byte == 95

abbrev pub IsName : List ℕ → Type 0
IsName [] = ⊥
IsName (byte ∷ bytes) = IsTrue (is_ascii_lowercase byte) × All (λ c. IsTrue (is_name_byte c)) bytes × (length bytes < 32)

-- The word is one or more digits, and they stand for n.
abbrev pub IsNumber : List ℕ → ℕ → Type 0
IsNumber word n = (0 < length word) × IsTrue (all_ascii_digits word) × (n ≡ digits_value 10 word)

abbrev pub IsNumberIn : ℕ → ℕ → List ℕ → ℕ → Type 0
IsNumberIn low high word n = IsNumber word n × (low ≤ n) × (n ≤ high)

abbrev pub BeginsWithDigit : List ℕ → Type 0
BeginsWithDigit [] = ⊥
BeginsWithDigit (byte ∷ bytes) = IsTrue (is_ascii_digit byte)
