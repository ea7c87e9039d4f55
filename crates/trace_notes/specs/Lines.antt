-- Which line is a note, and what it says.
use Rattle.std.specs.Prelude.{ℕ, ◌-◌, ◌==◌, ◌&&◌, Bool, false, nat_eq, Option, None, Some, List, [], ◌∷◌, length, take, codes, cond, is_some}
use Rattle.std.specs.List.{list_all, before_first, after_first, ends_with}
use Rattle.std.specs.Int.{is_in_range}
use Rattle.std.specs.Str.{all_ascii_digits, bytes_eq}
use Rattle.std.specs.Str.Parse.{digits_value}
use Rattle.trace_notes.specs.declared.line.Note.{Note}
use Rattle.trace_notes.specs.declared.line.Note.TheVariants as note
use Rattle.text_words.specs.Text.{is_text_byte, is_nonempty}
use Rattle.text_words.specs.Limits.{max_strand}
use Rattle.trace_notes.specs.Places.{split_place}

-- What a note says, as lists of bytes.
pub data Said : Type 0 where
  OfMark : (mark : ℕ) (place : List ℕ) → Said
  OfCell : (cell text : List ℕ) → Said
  OfMemory : (name text : List ℕ) → Said
  OfRun : (text : List ℕ) → Said

abbrev pub is_comment : List ℕ → Bool
is_comment [] = false
is_comment (byte ∷ bytes) = byte == 35

abbrev pub is_space : ℕ → Bool
is_space byte = byte == 32

-- What stands before the first space, and behind it.
abbrev pub head_of : List ℕ → List ℕ
head_of text = before_first is_space text

abbrev pub rest_of : List ℕ → List ℕ
rest_of text = after_first is_space text

-- One or more digits, which stand for the number of a mark.
abbrev pub is_mark : List ℕ → Bool
is_mark digits = is_nonempty digits && all_ascii_digits digits && is_in_range 1 max_strand (digits_value 10 digits)

abbrev pub said_of_mark : List ℕ → List ℕ → Option Said
said_of_mark digits place = cond (is_mark digits && is_some (split_place place)) (Some (OfMark (digits_value 10 digits) place)) None

-- A cell, or with `[*]` behind the name each cell of a memory.
abbrev pub said_of_word : List ℕ → List ℕ → Said
said_of_word word text = cond (ends_with nat_eq word (codes "[*]")) (OfMemory (take (length word - 3) word) text) (OfCell word text)

abbrev pub said_of_cell : List ℕ → List ℕ → Option Said
said_of_cell word text = cond (is_nonempty text) (Some (said_of_word word text)) None

abbrev pub said_of_run : List ℕ → Option Said
said_of_run text = cond (is_nonempty text) (Some (OfRun text)) None

-- What a line says whose first word is this, with what stands behind the space.
abbrev pub said_by : List ℕ → List ℕ → Option Said
said_by word rest =
    cond (bytes_eq word (codes "#at")) (said_of_mark (head_of rest) (rest_of rest)) (
    cond (bytes_eq word (codes "#of")) (said_of_cell (head_of rest) (rest_of rest)) (
    cond (bytes_eq word (codes "#run")) (said_of_run rest) None))

-- What a line says as a note. A line that says nothing is none; where it begins with `#`, it is a plain comment.
abbrev pub said_on : List ℕ → Option Said
said_on line = cond (list_all is_text_byte line) (said_by (head_of line) (rest_of line)) None

-- A note of the code as lists of bytes.
abbrev pub said : Note → Said
said (note.Mark mark place) = OfMark mark place.now
said (note.Cell cell text) = OfCell cell.now text.now
said (note.Memory name text) = OfMemory name.now text.now
said (note.Run text) = OfRun text.now
