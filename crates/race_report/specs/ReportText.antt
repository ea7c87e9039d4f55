-- The report of a run as a JSON value, and its text.
use Rattle.std.specs.Prelude.{ℕ, Bool, true, false, List, [], ◌∷◌, codes, length, map, take, drop}
use Rattle.serde_json.specs.Data.{Data, boolean, number, unsigned, string, array, object, Members, member, no_members, put}
use Rattle.serde_json.specs.View.{items_of}
use Rattle.serde_json.specs.Written.{compact_text}
use Rattle.text_words.specs.declared.value.Mem.{Mem}
use Rattle.text_words.specs.Values.{Known}
use Rattle.model_histories.specs.declared.answer.Entry.{Entry}
use Rattle.race_report.specs.Refusals.{refusals_told}

-- what the cells of a memory hold: the number of a single cell, and the list of the numbers of an array
abbrev pub cells_told : (is_array : Bool) → List ℕ → Data
cells_told false (value ∷ []) = number (unsigned value)
cells_told is_array values = array (items_of (map (λ value. number (unsigned value)) values))

-- the members with each of these memories put to its name; the values are those of the memories' cells, in order
abbrev pub memory_put : Members → List Mem → List ℕ → Members
memory_put told [] values = told
memory_put told (mem ∷ mems) values =
    memory_put (put mem.name (cells_told mem.array (take mem.cells values)) told) mems (drop mem.cells values)

-- each memory's name with what its cells hold, the names in byte order
abbrev pub memory_told : List Mem → List ℕ → Data
memory_told mems values = object (memory_put no_members mems values)

-- a run is clean where it has no refusals
abbrev pub is_clean : List Data → Bool
is_clean [] = true
is_clean (refusal ∷ refusals) = false

-- the last member of a clean run's report
abbrev pub schedules_told : Bool → Members
schedules_told true = member (codes "schedules") (string (codes "clean for every schedule")) no_members
schedules_told false = no_members

-- a report: whether the run is clean, the number of its entries, its memory, and its refusals
abbrev pub report_with : Bool → ℕ → Data → List Data → Data
report_with clean entries memory refusals =
    object (member (codes "clean") (boolean clean)
    (member (codes "entries") (number (unsigned entries))
    (member (codes "memory") memory
    (member (codes "refusals") (array (items_of refusals)) (schedules_told clean)))))

-- what a report tells before its refusals, and no refusal
abbrev pub bare_told : Bool → ℕ → Data → Data
bare_told clean entries memory =
    object (member (codes "clean") (boolean clean)
    (member (codes "entries") (number (unsigned entries))
    (member (codes "memory") memory
    (member (codes "refusals") (array (items_of [])) no_members))))

-- the text behind the refusals of a report
abbrev pub end_text : Bool → List ℕ
end_text true = codes ",\"schedules\":\"clean for every schedule\"}"
end_text false = codes "}"

-- the report of these entries, oldest first, that leave these values in the cells
abbrev pub report_told : Known → List Entry → List ℕ → Data
report_told known entries memory =
    let refusals = refusals_told known entries in
    report_with (is_clean refusals) (length entries) (memory_told known.mems memory) refusals

-- its text, with no space and no line feed
abbrev pub report_text : Known → List Entry → List ℕ → List ℕ
report_text known entries memory = compact_text (report_told known entries memory)
