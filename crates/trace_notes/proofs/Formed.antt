-- What is told of a mark is a place.
use Rattle.std.proofs.Common.{◌≡◌, ℕ, ◌==◌, ◌&&◌, List, [], ◌∷◌, ◌++◌, Option, Some, None, Bool, true, false, refl}
use Rattle.std.specs.Prelude.{◌-◌, cond, is_some, IsTrue, codes, length, take, nat_eq}
use Rattle.std.specs.List.{list_all, ends_with}
use Rattle.std.specs.Str.{bytes_eq}
use Rattle.std.specs.Str.Parse.{digits_value}
use Rattle.std.specs.Option.{option_or, option_and_then}
use Rattle.text_words.specs.Text.{is_text_byte, is_nonempty, words}
use Rattle.trace_notes.specs.Places.{PlaceParts, split_place}
use Rattle.trace_notes.specs.Lines.{Said, OfMark, OfCell, OfMemory, OfRun, is_comment, said_on, said_by, said_of_mark, said_of_word, said_of_cell, said_of_run, head_of, rest_of, is_mark}
use Rattle.trace_notes.specs.Notes.{first, if_of_mark, mark_on, place_told}
use Rattle.trace_notes.proofs.Kept.{first-append}
use Rattle.trace_notes.proofs.Marks.{plain_line}

abbrev IsFormed : Option Said → Type 0
IsFormed (Some (OfMark mark place)) = is_some (split_place place) ≡ true
IsFormed _ = Unit {0}

abbrev IsPlace : Option (List ℕ) → Type 0
IsPlace None = Unit {0}
IsPlace (Some place) = is_some (split_place place) ≡ true

either_formed : (b : Bool) (x y : Option Said) → IsFormed x → IsFormed y → IsFormed (cond b x y)
either_formed true x y p q = p
either_formed false x y p q = q

both_true : (a b : Bool) (mark : ℕ) (place : List ℕ) → is_some (split_place place) ≡ b → IsFormed (cond (a && b) (Some (OfMark mark place)) None)
both_true true true mark place e = e
both_true true false mark place e = tt
both_true false b mark place e = tt

word_formed : (b : Bool) (name cell text : List ℕ) → IsFormed (Some (cond b (OfMemory name text) (OfCell cell text)))
word_formed true name cell text = tt
word_formed false name cell text = tt

mark_formed : (digits place : List ℕ) → IsFormed (said_of_mark digits place)
mark_formed digits place = both_true (is_mark digits) (is_some (split_place place)) (digits_value 10 digits) place refl

cell_formed : (word text : List ℕ) → IsFormed (said_of_cell word text)
cell_formed word text =
    either_formed (is_nonempty text) (Some (said_of_word word text)) None
    (word_formed (ends_with nat_eq word (codes "[*]")) (take (length word - 3) word) word text) tt

run_formed : (text : List ℕ) → IsFormed (said_of_run text)
run_formed text = either_formed (is_nonempty text) (Some (OfRun text)) None tt tt

word_by : (word rest : List ℕ) → IsFormed (said_by word rest)
word_by word rest =
    let run : Option Said = cond (bytes_eq word (codes "#run")) (said_of_run rest) None in
    let cell : Option Said = cond (bytes_eq word (codes "#of")) (said_of_cell (head_of rest) (rest_of rest)) run in
    either_formed (bytes_eq word (codes "#at")) (said_of_mark (head_of rest) (rest_of rest)) cell
    (mark_formed (head_of rest) (rest_of rest))
    (either_formed (bytes_eq word (codes "#of")) (said_of_cell (head_of rest) (rest_of rest)) run
    (cell_formed (head_of rest) (rest_of rest))
    (either_formed (bytes_eq word (codes "#run")) (said_of_run rest) None (run_formed rest) tt))

formed : (line : List ℕ) → IsFormed (said_on line)
formed line = either_formed (list_all is_text_byte line) (said_by (head_of line) (rest_of line)) None (word_by (head_of line) (rest_of line)) tt

told_formed : (mark : ℕ) (note : Option Said) → IsFormed note → IsPlace (if_of_mark mark note)
told_formed mark (Some (OfMark other place)) h = told (other == mark) place h
  where
    told : (b : Bool) (place : List ℕ) → is_some (split_place place) ≡ true → IsPlace (cond b (Some place) None)
    told true place h = h
    told false place h = tt
told_formed mark (Some (OfCell cell text)) h = tt
told_formed mark (Some (OfMemory name text)) h = tt
told_formed mark (Some (OfRun text)) h = tt
told_formed mark None h = tt

or_place : (one other : Option (List ℕ)) → IsPlace one → IsPlace other → IsPlace (option_or one other)
or_place None other p q = q
or_place (Some place) other p q = p

first_formed : (mark : ℕ) (lines : List (List ℕ)) → IsPlace (first (mark_on mark) lines)
first_formed mark [] = tt
first_formed mark (line ∷ lines) =
    or_place (mark_on mark line) (first (mark_on mark) lines) (told_formed mark (said_on line) (formed line)) (first_formed mark lines)

no_place : (told : Option (List ℕ)) → IsPlace told → option_and_then split_place told ≡ None → told ≡ None
no_place None h none = refl
no_place (Some place) h none = absurd (cc)

pub places_formed : (lines : List (List ℕ)) (mark : ℕ) → place_told lines mark ≡ None → first (mark_on mark) lines ≡ None
places_formed lines mark none = no_place (first (mark_on mark) lines) (first_formed mark lines) none

still_told : (one other : Option (List ℕ)) (place : PlaceParts) → option_and_then split_place one ≡ Some place → option_and_then split_place (option_or one other) ≡ Some place
still_told None other place h = absurd (cc)
still_told (Some text) other place h = h

pub first_counts : (lines more : List (List ℕ)) (mark : ℕ) (place : PlaceParts)
    → place_told lines mark ≡ Some place → place_told (lines ++ more) mark ≡ Some place
first_counts lines more mark place h = rw first-append (still_told (first (mark_on mark) lines) (first (mark_on mark) more) place h)

note_or_plain : (line : List ℕ) (note : Said) → said_on line ≡ Some note → (b : Bool) → is_comment line ≡ b → is_comment line ≡ true
note_or_plain line note says true e = e
note_or_plain line note says false e = let none : said_on line ≡ None = plain_line line e in absurd (cc)

-- a comment has no words
wordless : (line : List ℕ) → is_comment line ≡ true → words line ≡ []
wordless [] h = absurd (cc)
wordless (byte ∷ bytes) h = rw h refl

pub comments : (line : List ℕ) (note : Said) → said_on line ≡ Some note → IsTrue (is_comment line) × (words line ≡ [])
comments line note says = let is = note_or_plain line note says (is_comment line) refl in (is, wordless line is)
