-- What is wrong with a text that means no trace: the first faulty line, and the lowest cause in it.
use Rattle.std.specs.Prelude.{◌≡◌, ◌≢◌, ℕ, ◌+◌, ◌<◌, ◌≤◌, Bool, true, false, ◌⊎◌, None, List, [], ◌∷◌, ◌++◌, codes}
use Rattle.text_words.specs.declared.fault.Cause.{Cause}
use Rattle.text_words.specs.declared.fault.Cause.TheVariants.{NotText, BadHeader, BadWord, BadNumber}
use Rattle.text_words.specs.declared.fault.Cause.TheVariants.{UnknownName, TwiceNamed, BadNesting, TooMany}
use Rattle.text_words.specs.declared.value.Version.{Version}
use Rattle.model_reducers.specs.declared.monoid.Monoid.{Monoid}
use Rattle.text_words.specs.declared.value.Mem.{Mem}
use Rattle.trace_text.specs.declared.keyword.Keyword.{Keyword}
use Rattle.text_words.specs.Text.{lines, words, IsTextLine, IsName, IsNumber, IsNumberIn, BeginsWithDigit}
use Rattle.text_words.specs.Limits.{max_strand, max_value, most_lines}
use Rattle.text_words.specs.Values.{Known, Contents}
use Rattle.text_words.specs.Causes.{IsLowest}
use Rattle.text_words.specs.Names.{IsDeclared, IsFresh, element_word, reducer_named, MonoidMeans}
use Rattle.trace_text.specs.LineGrammar as line
use Rattle.trace_text.specs.LineGrammar.{IsArranged}
use Rattle.trace_text.specs.Lines.{Place, FreshName, Number, Cell, ReducerName, MonoidWord, Mark, Placed, table, declares}
use Rattle.trace_text.specs.Grammar.{Item, ItemMeans, LineMeans, HasRoom, IsHeader, nothing, extended}

-- ---- words in their places

abbrev pub HasElementShape : List ℕ → List ℕ → List ℕ → Type 0
HasElementShape word name index = (word ≡ element_word name index) × IsName name × BeginsWithDigit index

abbrev pub HasShape : Version → Place → List ℕ → Type 0
HasShape version FreshName word = IsName word
HasShape version (Number low high) word = BeginsWithDigit word
HasShape version Cell word = IsName word ⊎ ((name : List ℕ) × (index : List ℕ) × HasElementShape word name index)
HasShape version ReducerName word = IsName word
HasShape version MonoidWord word = (monoid : Monoid) × MonoidMeans version word monoid
HasShape version Mark word = (rest : List ℕ) × (word ≡ codes "@" ++ rest)

-- The index is no number, or is past the length of the array.
abbrev pub IsBadIndex : List Mem → List ℕ → List ℕ → Type 0
IsBadIndex mems name index =
    ((i : ℕ) → IsNumberIn 0 max_value index i → ⊥)
    ⊎ ((mem : Mem) × IsDeclared mems name true mem × ((i : ℕ) → IsNumber index i → mem.cells ≤ i))

abbrev pub IsBadNumber : List Mem → Place → List ℕ → Type 0
IsBadNumber mems (Number low high) word = (n : ℕ) → IsNumberIn low high word n → ⊥
IsBadNumber mems Cell word = (name : List ℕ) × (index : List ℕ) × HasElementShape word name index × IsBadIndex mems name index
IsBadNumber mems Mark word = (rest : List ℕ) → word ≡ codes "@" ++ rest → (n : ℕ) → IsNumberIn 1 max_strand rest n → ⊥
IsBadNumber mems place word = ⊥

abbrev pub IsUndeclared : List Mem → List ℕ → Bool → Type 0
IsUndeclared mems name array = (mem : Mem) → IsDeclared mems name array mem → ⊥

abbrev pub IsUnknownName : Known → Place → List ℕ → Type 0
IsUnknownName known Cell word =
    (IsName word × IsUndeclared known.mems word false)
    ⊎ ((name : List ℕ) × (index : List ℕ) × HasElementShape word name index × IsUndeclared known.mems name true)
IsUnknownName known ReducerName word = IsName word × (reducer_named known.reducers word ≡ None)
IsUnknownName known place word = ⊥

abbrev pub IsTwiceNamed : Known → Place → List ℕ → Type 0
IsTwiceNamed known FreshName word = IsFresh known word → ⊥
IsTwiceNamed known place word = ⊥

-- What is wrong with a word in its place.
abbrev pub WordFault : Known → Place → List ℕ → Cause → Type 0
WordFault known place word BadWord = HasShape known.version place word → ⊥
WordFault known place word BadNumber = IsBadNumber known.mems place word
WordFault known place word UnknownName = IsUnknownName known place word
WordFault known place word TwiceNamed = IsTwiceNamed known place word
WordFault known place word cause = ⊥

-- What is wrong with the words of a line.
abbrev pub WordsFault : Known → List (List ℕ) → Cause → Type 0
WordsFault known = line.WordsFault (WordFault known) table known.version

-- ---- lines

-- What is wrong with the line with the number `at`, behind what was read so far.
abbrev pub LineFault : ℕ → Contents → List ℕ → Cause → Type 0
LineFault at so_far line NotText = IsTextLine line → ⊥
LineFault at so_far line BadNesting =
    (keyword : Keyword) × (pairs : List Placed) × IsArranged table so_far.known.version (words line) keyword pairs
    × (declares keyword ≡ true) × (so_far.lines ≢ [])
LineFault at so_far line TooMany =
    (most_lines < at) ⊎ ((item : Item) × ItemMeans at so_far.known (words line) item × (HasRoom so_far item → ⊥))
LineFault at so_far line cause = WordsFault so_far.known (words line) cause

abbrev pub HeaderFault : List ℕ → Cause → Type 0
HeaderFault line NotText = IsTextLine line → ⊥
HeaderFault line BadHeader = (version : Version) → IsHeader line version → ⊥
HeaderFault line cause = ⊥

-- ---- texts

-- The first faulty line among those from the number `at` on is that with the number `bad`, and the cause is its lowest.
abbrev pub LinesFault : ℕ → Contents → List (List ℕ) → ℕ → Cause → Type 0
LinesFault at so_far [] bad cause = ⊥
LinesFault at so_far (line ∷ lines) bad cause =
    ((bad ≡ at) × IsLowest (LineFault at so_far line) cause)
    ⊎ ((item : Item) × LineMeans at so_far line item × LinesFault (at + 1) (extended at so_far item) lines bad cause)

abbrev pub FaultOfLines : List (List ℕ) → ℕ → Cause → Type 0
FaultOfLines [] bad cause = (bad ≡ 1) × (cause ≡ BadHeader)
FaultOfLines (first ∷ rest) bad cause =
    ((bad ≡ 1) × IsLowest (HeaderFault first) cause)
    ⊎ ((version : Version) × IsHeader first version × LinesFault 2 (nothing version) rest bad cause)

abbrev pub TextFaults : List ℕ → ℕ → Cause → Type 0
TextFaults text bad cause = FaultOfLines (lines text) bad cause
