-- What the notes of some lines tell: the first that speaks of a mark or a cell counts.
use Rattle.std.specs.Prelude.{◌≡◌, ℕ, ◌==◌, Bool, Option, None, Some, List, [], ◌∷◌, ◌++◌, map, cond, String, string_bytes}
use Rattle.std.specs.List.{filter_map, before_first}
use Rattle.std.specs.Option.{option_map, option_or, option_and_then}
use Rattle.std.specs.Ordering.{nat_cmp}
use Rattle.std.specs.BTreeMap.{BTreeMap, get, get_by_text}
use Rattle.std.specs.Str.{bytes_eq}
use Rattle.trace_notes.specs.declared.notes.Notes.{Notes}
use Rattle.trace_notes.specs.Places.{PlaceParts, split_place}
use Rattle.trace_notes.specs.Lines.{Said, OfMark, OfCell, OfMemory, OfRun, said_on}

-- What the first of some lines that has something has.
abbrev pub first : {X : Type 0} → (List ℕ → Option X) → List (List ℕ) → Option X
first told [] = None
first told (line ∷ lines) = option_or (told line) (first told lines)

abbrev pub if_of_mark : ℕ → Option Said → Option (List ℕ)
if_of_mark mark (Some (OfMark other place)) = cond (other == mark) (Some place) None
if_of_mark mark _ = None

abbrev pub if_of_cell : List ℕ → Option Said → Option (List ℕ)
if_of_cell cell (Some (OfCell other text)) = cond (bytes_eq other cell) (Some text) None
if_of_cell cell _ = None

abbrev pub if_of_memory : List ℕ → Option Said → Option (List ℕ)
if_of_memory name (Some (OfMemory other text)) = cond (bytes_eq other name) (Some text) None
if_of_memory name _ = None

abbrev pub if_of_run : Option Said → Option (List ℕ)
if_of_run (Some (OfRun text)) = Some text
if_of_run _ = None

-- What a line says of a mark, of a cell, of each cell of a memory, of the run.
abbrev pub mark_on : ℕ → List ℕ → Option (List ℕ)
mark_on mark line = if_of_mark mark (said_on line)

abbrev pub cell_on : List ℕ → List ℕ → Option (List ℕ)
cell_on cell line = if_of_cell cell (said_on line)

abbrev pub memory_on : List ℕ → List ℕ → Option (List ℕ)
memory_on name line = if_of_memory name (said_on line)

abbrev pub run_on : List ℕ → Option (List ℕ)
run_on line = if_of_run (said_on line)

-- The place that the notes of these lines tell of a mark.
abbrev pub place_told : List (List ℕ) → ℕ → Option PlaceParts
place_told lines mark = option_and_then split_place (first (mark_on mark) lines)

-- The name of the memory in that of a cell.
abbrev pub memory_of : List ℕ → List ℕ
memory_of cell = before_first (λ byte. byte == 91) cell

-- What they tell of a cell: what is said of that very cell, or else of each cell of its memory.
abbrev pub text_told : List (List ℕ) → List ℕ → Option (List ℕ)
text_told lines cell = option_or (first (cell_on cell) lines) (first (memory_on (memory_of cell)) lines)

-- What they say of the run, in their order.
abbrev pub runs_told : List (List ℕ) → List (List ℕ)
runs_told lines = filter_map run_on lines

-- ---- what is kept

abbrev pub place_in : {A : Type 0} → BTreeMap ℕ (String A) → ℕ → Option (List ℕ)
place_in places mark = option_map string_bytes (get nat_cmp places mark)

abbrev pub text_in : {A : Type 0} → BTreeMap (String A) (String A) → List ℕ → Option (List ℕ)
text_in texts name = option_map string_bytes (get_by_text texts name)

abbrev pub kept_place : Notes → ℕ → Option (List ℕ)
kept_place notes mark = place_in notes.places mark

abbrev pub kept_cell : Notes → List ℕ → Option (List ℕ)
kept_cell notes cell = text_in notes.cells cell

abbrev pub kept_memory : Notes → List ℕ → Option (List ℕ)
kept_memory notes name = text_in notes.memories name

abbrev pub kept_runs : Notes → List (List ℕ)
kept_runs notes = map string_bytes notes.runs.items

-- The place of a mark by what is kept, and the text of a cell.
abbrev pub noted_place : Notes → ℕ → Option PlaceParts
noted_place notes mark = option_and_then split_place (kept_place notes mark)

abbrev pub noted_text : Notes → List ℕ → Option (List ℕ)
noted_text notes cell = option_or (kept_cell notes cell) (kept_memory notes (memory_of cell))

-- They are the notes of these lines.
pub record AreNotes (lines : List (List ℕ)) (notes : Notes) : Type 0 where
  pub places : (mark : ℕ) → kept_place notes mark ≡ first (mark_on mark) lines
  pub cells : (cell : List ℕ) → kept_cell notes cell ≡ first (cell_on cell) lines
  pub memories : (name : List ℕ) → kept_memory notes name ≡ first (memory_on name) lines
  pub runs : kept_runs notes ≡ runs_told lines

-- The notes of these lines were added.
pub record Adds (lines : List (List ℕ)) (old new : Notes) : Type 0 where
  pub places : (mark : ℕ) → kept_place new mark ≡ option_or (kept_place old mark) (first (mark_on mark) lines)
  pub cells : (cell : List ℕ) → kept_cell new cell ≡ option_or (kept_cell old cell) (first (cell_on cell) lines)
  pub memories : (name : List ℕ) → kept_memory new name ≡ option_or (kept_memory old name) (first (memory_on name) lines)
  pub runs : kept_runs new ≡ kept_runs old ++ runs_told lines
