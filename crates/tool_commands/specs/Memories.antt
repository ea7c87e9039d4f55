-- The final memory of a run as JSON.
use Rattle.std.specs.Prelude.{ℕ, ◌+◌, List, [], ◌∷◌, ◌++◌, codes, take, drop}
use Rattle.serde_json.specs.Data.{Data, object, array, member, no_members}
use Rattle.serde_json.specs.View.{items_of}
use Rattle.text_words.specs.declared.value.Mem.{Mem}
use Rattle.trace_text.specs.Shapes.{name_in}
use Rattle.race_records.specs.Values.{text_told, count_told}

-- what a memory's cell with this index holds
abbrev pub cell_value : Mem → (index value : ℕ) → Data
cell_value mem index value =
    object (member (codes "cell") (text_told (name_in mem index)) (member (codes "value") (count_told value) no_members))

-- what a memory's cells hold from an index on
abbrev pub cell_values : Mem → (index : ℕ) → List ℕ → List Data
cell_values mem index [] = []
cell_values mem index (value ∷ values) = cell_value mem index value ∷ cell_values mem (index + 1) values

-- what all cells hold, in order
abbrev pub memory_values : List Mem → List ℕ → List Data
memory_values [] values = []
memory_values (mem ∷ mems) values = cell_values mem 0 (take mem.cells values) ++ memory_values mems (drop mem.cells values)

abbrev pub memory_told : List Mem → List ℕ → Data
memory_told mems values = array (items_of (memory_values mems values))
