-- What the lines of a trace mean: a case for each kind of line.
use Rattle.std.specs.Prelude.{◌≡◌, ℕ, ◌+◌, ◌<◌, ◌≤◌, Option, List, [], ◌∷◌, ◌++◌, length, codes, unwrap_or, is_some}
use Rattle.text_words.specs.declared.value.Version.{Version}
use Rattle.model_reducers.specs.declared.monoid.Monoid.{Monoid}
use Rattle.text_words.specs.declared.value.TraceLine.{TraceLine}
use Rattle.trace_text.specs.declared.keyword.Keyword.TheVariants.{Mem as MemWord, Reducer as ReducerWord}
use Rattle.text_words.specs.Text.{lines, words, IsTextLine}
use Rattle.model_accesses.specs.Limits.{most_cells}
use Rattle.model_reducers.specs.Limits.{most_reducers}
use Rattle.text_words.specs.Limits.{most_requests, most_lines}
use Rattle.text_words.specs.Values.{Known, Contents, version_spelling}
use Rattle.text_words.specs.Declarations.{cells_of, with_memory, with_reducer}
use Rattle.trace_text.specs.Lines.{OfName, OfNumber, OfMonoid, Says, asks, operands, if_there}

-- ---- lines

-- What a line says: nothing, a memory of one cell or of so many, a reducer, or a request.
pub data Item : Type 0 where
  Blank : Item
  Declared : (name : List ℕ) (length : Option ℕ) → Item
  Reduces : (name : List ℕ) (monoid : Monoid) → Item
  Asked : (line : TraceLine) → Item

-- What the words of the line with the number `at` say, behind these declarations.
abbrev pub ItemMeans : ℕ → Known → List (List ℕ) → Item → Type 0
ItemMeans at known ws Blank = ws ≡ []
ItemMeans at known ws (Declared name length) = Says known ws MemWord (OfName name ∷ if_there length)
ItemMeans at known ws (Reduces name monoid) = Says known ws ReducerWord (OfName name ∷ OfMonoid monoid ∷ [])
ItemMeans at known ws (Asked line) =
    (mark : Option ℕ)
    × Says known ws (asks line.request.act) (OfNumber line.request.strand ∷ (operands line.request.act ++ if_there mark))
    × (line.at ≡ at) × (line.request.line ≡ unwrap_or mark at) × (line.marked ≡ is_some mark)

-- ---- texts

-- The item fits behind what was read so far.
abbrev pub HasRoom : Contents → Item → Type 0
HasRoom so_far Blank = Unit {0}
HasRoom so_far (Declared name length) = cells_of so_far.known.mems + unwrap_or length 1 ≤ most_cells
HasRoom so_far (Reduces name monoid) = length so_far.known.reducers < most_reducers
HasRoom so_far (Asked line) = length so_far.lines < most_requests

-- Declarations stand before all requests.
abbrev pub IsInOrder : Contents → Item → Type 0
IsInOrder so_far (Declared name length) = so_far.lines ≡ []
IsInOrder so_far (Reduces name monoid) = so_far.lines ≡ []
IsInOrder so_far item = Unit {0}

-- What was read so far, and the item.
abbrev pub extended : ℕ → Contents → Item → Contents
extended at so_far Blank = so_far
extended at so_far (Declared name length) = record so_far { known = with_memory at so_far.known name length }
extended at so_far (Reduces name monoid) = record so_far { known = with_reducer at so_far.known name monoid }
extended at so_far (Asked line) = record so_far { lines = so_far.lines ++ line ∷ [] }

-- The line with the number `at` says this item, behind what was read so far.
abbrev pub LineMeans : ℕ → Contents → List ℕ → Item → Type 0
LineMeans at so_far line item =
    (at ≤ most_lines) × IsTextLine line × ItemMeans at so_far.known (words line) item × IsInOrder so_far item × HasRoom so_far item

-- The lines from the number `at` on lead from what was read so far to the contents.
abbrev pub LinesMean : ℕ → Contents → List (List ℕ) → Contents → Type 0
LinesMean at so_far [] contents = contents ≡ so_far
LinesMean at so_far (line ∷ lines) contents =
    (item : Item) × LineMeans at so_far line item × LinesMean (at + 1) (extended at so_far item) lines contents

-- The first line of a text of that version.
abbrev pub IsHeader : List ℕ → Version → Type 0
IsHeader line version = IsTextLine line × (words line ≡ codes "cilk" ∷ version_spelling version ∷ [])

-- Nothing is read yet.
abbrev pub nothing : Version → Contents
nothing version = record { known = record { version = version; mems = []; reducers = [] }; lines = [] }

abbrev pub LinesOfTrace : List (List ℕ) → Contents → Type 0
LinesOfTrace [] contents = ⊥
LinesOfTrace (first ∷ rest) contents = IsHeader first contents.known.version × LinesMean 2 (nothing contents.known.version) rest contents

-- The text means these contents of a trace.
abbrev pub TextMeans : List ℕ → Contents → Type 0
TextMeans text contents = LinesOfTrace (lines text) contents
