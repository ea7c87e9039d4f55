-- Laws of notes.
use Rattle.std.specs.Prelude.{◌≡◌, ℕ, ◌++◌, None, Some, List, [], IsTrue}
use Rattle.text_words.specs.Text.{words}
use Rattle.trace_notes.specs.Places.{PlaceParts}
use Rattle.trace_notes.specs.Lines.{Said, is_comment, said_on}
use Rattle.trace_notes.specs.Notes.{first, mark_on, place_told}

-- A line that says something as a note begins with `#`, and has no words.
abbrev pub NotesAreComments : Type 0
NotesAreComments = (line : List ℕ) (note : Said) → said_on line ≡ Some note → IsTrue (is_comment line) × (words line ≡ [])

-- Where no place is told of a mark, no note of these lines speaks of it.
abbrev pub PlacesAreFormed : Type 0
PlacesAreFormed = (lines : List (List ℕ)) (mark : ℕ) → place_told lines mark ≡ None → first (mark_on mark) lines ≡ None

-- What was told stays so.
abbrev pub FirstCounts : Type 0
FirstCounts =
    (lines more : List (List ℕ)) (mark : ℕ) (place : PlaceParts)
    → place_told lines mark ≡ Some place → place_told (lines ++ more) mark ≡ Some place
