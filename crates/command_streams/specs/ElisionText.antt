-- The text of an elision.
use Rattle.std.specs.Prelude.{ℕ, ◌+◌, ◌≤◌, List, [], ◌∷◌, ◌++◌, length, take, drop, codes, decimal}
use Rattle.text_words.specs.declared.value.Mem.{Mem}
use Rattle.trace_text.specs.Shapes.{name_in}

-- the line of a memory's cell with this index: its name and its value
abbrev pub cell_line : Mem → (index value : ℕ) → List ℕ
cell_line mem index value = name_in mem index ++ codes " " ++ decimal value ++ codes "\n"

-- the lines of a memory's cells from an index on
abbrev pub cell_lines : Mem → (index : ℕ) → List ℕ → List ℕ
cell_lines mem index [] = []
cell_lines mem index (value ∷ values) = cell_line mem index value ++ cell_lines mem (index + 1) values

-- the lines of all cells, which these values are in order
abbrev pub memory_text : List Mem → List ℕ → List ℕ
memory_text [] values = []
memory_text (mem ∷ mems) values = cell_lines mem 0 (take mem.cells values) ++ memory_text mems (drop mem.cells values)

-- the line of the number of requests
abbrev pub requests_line : (requests : ℕ) → List ℕ
requests_line requests = codes "requests " ++ decimal requests ++ codes "\n"

abbrev pub elision_text : List Mem → List ℕ → (requests : ℕ) → List ℕ
elision_text mems memory requests = memory_text mems memory ++ requests_line requests

-- the name is no longer than a name may be
abbrev pub HasShortName : Mem → Type 0
HasShortName mem = length mem.name ≤ 32
