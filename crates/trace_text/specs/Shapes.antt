-- What every trace keeps: its cells are numbered, its requests name cells and reducers that there are, and no limit is passed.
use Rattle.std.specs.Prelude.{ℕ, suc, ◌+◌, ◌-◌, ◌≤◌, ◌==◌, Bool, true, not, ◌&&◌, Option}
use Rattle.std.specs.Prelude.{Some, None, List, [], ◌∷◌, ◌++◌, codes, if◌then◌else◌, nat_lt}
use Rattle.std.specs.List.{find}
use Rattle.std.specs.Fmt.{decimal}
use Rattle.model_accesses.specs.declared.request.Act.{Act}
use Rattle.model_accesses.specs.declared.request.Act.TheVariants.{Read, Write, Bump, Update, Put, Get}
use Rattle.text_words.specs.declared.value.Mem.{Mem}
use Rattle.text_words.specs.declared.value.TraceLine.{TraceLine}

-- The cells of the memories are numbered from this number on, without a gap.
abbrev pub is_numbered : ℕ → List Mem → Bool
is_numbered from [] = true
is_numbered from (mem ∷ mems) = (mem.first == from) && is_numbered (from + mem.cells) mems

-- How many cells there must be for the location of an act to be one of them.
abbrev pub cells_used : Act → ℕ
cells_used (Read location) = suc location
cells_used (Write location value) = suc location
cells_used (Bump location value) = suc location
cells_used act = 0

-- The same of reducers.
abbrev pub reducers_used : Act → ℕ
reducers_used (Update reducer value) = suc reducer
reducers_used (Put reducer value) = suc reducer
reducers_used (Get reducer) = suc reducer
reducers_used act = 0

-- The request names a cell and a reducer that there are, where it names one.
abbrev pub IsWithin : ℕ → ℕ → TraceLine → Type 0
IsWithin cells reducers line = (cells_used line.request.act ≤ cells) × (reducers_used line.request.act ≤ reducers)

-- ---- names of cells

-- The cell is one of the memory.
abbrev pub has_cell : ℕ → Mem → Bool
has_cell location mem = not (nat_lt location mem.first) && nat_lt (location - mem.first) mem.cells

-- The name of a memory's cell with this index.
abbrev pub name_in : Mem → ℕ → List ℕ
name_in mem index = mem.name ++ (if mem.array then codes "[" ++ decimal index ++ codes "]" else [])

abbrev pub name_found : ℕ → Option Mem → List ℕ
name_found location None = []
name_found location (Some mem) = name_in mem (location - mem.first)

-- The name of the cell with this number.
abbrev pub name_of_cell : List Mem → ℕ → List ℕ
name_of_cell mems location = name_found location (find (has_cell location) mems)
