-- Lines in plain form: single spaces between words, no leading zeros, no comment, and a line feed at the end.
use Rattle.std.specs.Prelude.{◌≡◌, ℕ, ◌+◌, ◌<◌, ◌≤◌, Bool, IsTrue, Option, Some, List, [], ◌∷◌, ◌++◌, length}
use Rattle.std.specs.List.{All, AllByRecursion}
use Rattle.std.specs.Fmt.{decimal}
use Rattle.std.specs.Int.{is_in_range}
use Rattle.model_accesses.specs.declared.kind.Kind.{Kind}
use Rattle.model_accesses.specs.declared.kind.Kind.TheVariants as kind
use Rattle.model_accesses.specs.declared.request.Act.{Act}
use Rattle.text_words.specs.Text.{words, IsTextLine, IsNumber}
use Rattle.text_words.specs.Limits.{max_value}
use Rattle.text_words.specs.Values.{Known}
use Rattle.trace_text.specs.Lines.{Place, Placed, placed, Value, WordMeans, WordsMean, Mark, a_value, OfNumber, if_there, asks, operands}
use Rattle.trace_text.specs.Shapes.{is_numbered}
use Rattle.trace_text.specs.Grammar.{ItemMeans}
use Rattle.trace_text.specs.Items.{line_asked}
use Rattle.trace_text.specs.Printing.{behind_space, plain_word, plain_words, plain_line}

-- The bytes that words are written with: no blank, and nothing that begins a comment.
abbrev pub is_word_byte : ℕ → Bool
is_word_byte byte = is_in_range 36 126 byte

abbrev pub IsPlain : List ℕ → Type 0
IsPlain word = (0 < length word) × AllByRecursion (λ byte. IsTrue (is_word_byte byte)) word

abbrev pub ArePlain : List (List ℕ) → Type 0
ArePlain = AllByRecursion IsPlain

-- The cells are numbered without a gap, and each memory has one: so each cell has one name.
abbrev pub IsSettled : Known → Type 0
IsSettled known = IsTrue (is_numbered 0 known.mems) × All (λ mem. 1 ≤ mem.cells) known.mems

-- The bytes begin with the digits of this number of 64 bits, without leading zeros, and the rest stands behind them.
abbrev pub HasNumber : List ℕ → ℕ → List ℕ → Type 0
HasNumber bytes number rest = (word : List ℕ) × (bytes ≡ word ++ rest) × IsNumber word number × (number ≤ max_value) × (decimal number ≡ word)

-- The bytes begin with a plain word that means this value in its place: with the plain word for it.
abbrev pub HasWord : Known → Place → List ℕ → Value → List ℕ → Type 0
HasWord known place bytes value rest =
    (word : List ℕ) × (bytes ≡ word ++ rest) × IsPlain word × WordMeans known place word value × (IsSettled known → plain_word known place value ≡ word)

-- The same behind one space.
abbrev pub HasNext : Known → Place → List ℕ → Value → List ℕ → Type 0
HasNext known place bytes value rest = (behind : List ℕ) × (bytes ≡ 32 ∷ behind) × HasWord known place behind value rest

-- The same of the value of an access, where its kind has one. Where it has none, it stands nowhere.
abbrev pub HasValue : Known → Kind → List ℕ → ℕ → List ℕ → Type 0
HasValue known kind.Read bytes value rest = rest ≡ bytes
HasValue known kind.Get bytes value rest = rest ≡ bytes
HasValue known kind bytes value rest = HasNext known a_value bytes (OfNumber value) rest

-- The bytes begin with an index in brackets, which is that of this cell of an array.
abbrev pub HasIndex : List ℕ → ℕ → ℕ → ℕ → List ℕ → Type 0
HasIndex bytes first cells cell rest =
    (digits : List ℕ) × (i : ℕ) × (bytes ≡ 91 ∷ (digits ++ 93 ∷ rest)) × IsNumber digits i × (i < cells) × (cell ≡ first + i) × (decimal i ≡ digits)

-- The bytes begin with plain words, each behind one space, and a line feed. In these places the words mean these values.
pub record HasEnd (known : Known) (places : List Place) (last : Option Place)
    (bytes : List ℕ) (values : List Value) (rest : List ℕ) : Type 0 where
  pub ws : List (List ℕ)
  pub pairs : List Placed
  pub split : bytes ≡ behind_space ws ++ 10 ∷ rest
  pub plain : ArePlain ws
  pub in_places : placed places last ws ≡ Some pairs
  pub mean : WordsMean known pairs values
  pub exact : IsSettled known → plain_words known places last values ≡ ws

-- The bytes begin with plain words that mean these values in these places, whatever others stand behind them.
abbrev pub HasPlaces : Known → List Place → List ℕ → List Value → List ℕ → Type 0
HasPlaces known places bytes values rest =
    (others : List Place) (more : List Value) (behind : List ℕ)
    → HasEnd known others (Some Mark) rest more behind → HasEnd known (places ++ others) (Some Mark) bytes (values ++ more) behind

-- The bytes begin with a line that asks for this, on whatever line of the text it stands: with the plain line.
abbrev pub HasRequest : Known → List ℕ → ℕ → Act → Option ℕ → List ℕ → Type 0
HasRequest known bytes strand act mark rest =
    (line : List ℕ) × (bytes ≡ line ++ 10 ∷ rest) × IsTextLine line
    × ((at : ℕ) → ItemMeans at known (words line) (line_asked at strand act mark))
    × (IsSettled known → plain_line known (asks act) (OfNumber strand ∷ (operands act ++ if_there mark)) ≡ line)

-- The same but for the mark and the line feed, which are what this rest begins with.
abbrev pub BeginsRequest : Known → List ℕ → ℕ → Act → List ℕ → Type 0
BeginsRequest known bytes strand act rest =
    (mark : Option ℕ) (behind : List ℕ)
    → HasEnd known [] (Some Mark) rest (if_there mark) behind → HasRequest known bytes strand act mark behind
