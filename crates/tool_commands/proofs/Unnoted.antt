-- A text with no `#` has no notes.
use Rattle.std.proofs.Common.{◌≡◌, ◌==◌, ◌-◌, ℕ, zero, suc, Bool, true, false, List, [], ◌∷◌, length, take, map, Option, Some, None, refl, arith}
use Rattle.std.specs.List.{onto_first}
use Rattle.std.specs.Prelude.{slice_index}
use Rattle.std.specs.Str.Lines.{strip_carriage_return}
use Rattle.memchr.specs.Find.{Nowhere, Passes, is_byte, IsFirstByte}
use Rattle.text_words.specs.Text.{pieces, lines}
use Rattle.trace_notes.specs.declared.notes.Notes.{Notes}
use Rattle.trace_notes.specs.Lines.{is_comment}
use Rattle.trace_notes.specs.Notes.{AreNotes, Adds}
use Rattle.trace_notes.proofs.Marks.{plain_line}
use Rattle.trace_notes.proofs.Kept.{adds_none, adds_plain, are_more}

-- none of the bytes is `#`
abbrev IsBare : List ℕ → Type 0
IsBare [] = Unit {0}
IsBare (byte ∷ bytes) = ((byte == 35) ≡ false) × IsBare bytes

abbrev AreBare : List (List ℕ) → Type 0
AreBare [] = Unit {0}
AreBare (line ∷ rest) = IsBare line × AreBare rest

bare_first : (byte : ℕ) (some : List (List ℕ)) → (byte == 35) ≡ false → AreBare some → AreBare (onto_first byte some)
bare_first byte [] e b = ((e, tt), tt)
bare_first byte (line ∷ rest) e b = ((e, b.0), b.1)

bare_pieces : (text : List ℕ) → IsBare text → AreBare (pieces text)
bare_pieces [] b = tt
bare_pieces (byte ∷ bytes) b = by (byte == 10) refl (bare_pieces bytes b.1)
  where
    by : (feed : Bool) → (byte == 10) ≡ feed → AreBare (pieces bytes) → AreBare (pieces (byte ∷ bytes))
    by true e rest = rw e (tt, rest)
    by false e rest = rw e (bare_first byte (pieces bytes) b.0 rest)

bare_taken : (count : ℕ) (line : List ℕ) → IsBare line → is_comment (take count line) ≡ false
bare_taken zero line b = refl
bare_taken (suc count) [] b = refl
bare_taken (suc count) (byte ∷ bytes) b = b.0

bare_whole : (line : List ℕ) → IsBare line → is_comment line ≡ false
bare_whole [] b = refl
bare_whole (byte ∷ bytes) b = b.0

bare_stripped : (line : List ℕ) → IsBare line → is_comment (strip_carriage_return line) ≡ false
bare_stripped line b = by (slice_index line (length line - 1) == 13) refl
  where
    by : (returned : Bool) → (slice_index line (length line - 1) == 13) ≡ returned → is_comment (strip_carriage_return line) ≡ false
    by true e = rw e (bare_taken (length line - 1) line b)
    by false e = rw e (bare_whole line b)

bare_adds : (some : List (List ℕ)) (notes : Notes) → AreBare some → Adds (map strip_carriage_return some) notes notes
bare_adds [] notes b = adds_none notes
bare_adds (line ∷ rest) notes b =
    adds_plain (strip_carriage_return line) (map strip_carriage_return rest) notes notes
    (plain_line (strip_carriage_return line) (bare_stripped line b.0)) (bare_adds rest notes b.1)

bare_text : (text : List ℕ) → Nowhere (Passes (is_byte 35) text) 0 (length text) → IsBare text
bare_text [] none = tt
bare_text (byte ∷ bytes) none = (by (byte == 35) refl, bare_text bytes (λ k low high passes. none (suc k) (omega arith) (omega arith) passes))
  where
    by : (hash : Bool) → (byte == 35) ≡ hash → (byte == 35) ≡ false
    by true e = absurd (none 0 (omega arith) (omega arith) e)
    by false e = e

pub no_notes : (text : List ℕ) (notes : Notes) (found : Option ℕ) → IsFirstByte (is_byte 35) text found → found ≡ None →
    AreNotes [] notes → AreNotes (lines text) notes
no_notes text notes None is none are = are_more [] (lines text) notes notes are (bare_adds (pieces text) notes (bare_pieces text (bare_text text is)))
no_notes text notes (Some k) is none are = absurd (cc)
