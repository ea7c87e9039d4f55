-- What is kept of notes, as lines are added.
use Rattle.std.proofs.Common.{◌≡◌, ℕ, ◌==◌, List, [], ◌∷◌, ◌++◌, Option, Some, None, refl, ap, sym, ◌∙◌, arith, append_assoc, length, true, false}
use Rattle.std.specs.Prelude.{cond, map, string_bytes}
use Rattle.std.specs.List.{cons_option}
use Rattle.std.specs.Option.{option_or}
use Rattle.std.specs.Str.{bytes_eq}
use Rattle.std.specs.Str.Lines.{strip_carriage_return}
use Rattle.std.proofs.lemmas.List.{append-nil}
use Rattle.std.proofs.lemmas.Bool.Decides.{nat_tests}
use Rattle.trace_notes.specs.declared.notes.Notes.{Notes}
use Rattle.text_words.specs.Text.{pieces, lines}
use Rattle.trace_notes.specs.Lines.{OfMark, OfCell, OfMemory, OfRun, is_comment, said_on}
use Rattle.trace_notes.proofs.Marks.{plain_line}
use Rattle.trace_notes.specs.Notes.{first, mark_on, cell_on, memory_on, run_on, runs_told, place_in, text_in, kept_runs, AreNotes, Adds}

-- ---- the first that is told

or-none : {X : Type 0} (one : Option X) → option_or one None ≡ one
or-none None = refl
or-none (Some x) = refl

or-assoc : {X : Type 0} (one other another : Option X) → option_or (option_or one other) another ≡ option_or one (option_or other another)
or-assoc None other another = refl
or-assoc (Some x) other another = refl

pub first-append : {X : Type 0} (told : List ℕ → Option X) (lines more : List (List ℕ)) → first told (lines ++ more) ≡ option_or (first told lines) (first told more)
first-append told [] more = refl
first-append told (line ∷ lines) more =
    ap (λ rest. option_or (told line) rest) (first-append told lines more) ∙ sym (or-assoc (told line) (first told lines) (first told more))

cons-append : {X : Type 0} (one : Option X) (xs ys : List X) → cons_option one xs ++ ys ≡ cons_option one (xs ++ ys)
cons-append None xs ys = refl
cons-append (Some x) xs ys = refl

runs-append : (lines more : List (List ℕ)) → runs_told (lines ++ more) ≡ runs_told lines ++ runs_told more
runs-append [] more = refl
runs-append (line ∷ lines) more =
    ap (λ rest. cons_option (run_on line) rest) (runs-append lines more) ∙ sym (cons-append (run_on line) (runs_told lines) (runs_told more))

-- ---- lines that are added

pub adds_none : (notes : Notes) → Adds [] notes notes
adds_none notes = record {
  places = λ mark. sym (or-none _);
  cells = λ cell. sym (or-none _);
  memories = λ name. sym (or-none _);
  runs = sym (append-nil _);
}

one_more : {X : Type 0} (told : List ℕ → Option X) (line : List ℕ) (lines : List (List ℕ)) (old between new : Option X)
    → between ≡ option_or old (first told (line ∷ [])) → new ≡ option_or between (first told lines) → new ≡ option_or old (first told (line ∷ lines))
one_more told line lines old between new one rest =
    rest ∙ ap (λ b. option_or b (first told lines)) one ∙ or-assoc old (first told (line ∷ [])) (first told lines)
    ∙ ap (λ f. option_or old (option_or f (first told lines))) (or-none (told line))

pub adds_more : (line : List ℕ) (lines : List (List ℕ)) (old between new : Notes)
    → Adds (line ∷ []) old between → Adds lines between new → Adds (line ∷ lines) old new
adds_more line lines old between new one rest = record {
  places = λ mark. one_more (mark_on mark) line lines _ _ _ (one.places mark) (rest.places mark);
  cells = λ cell. one_more (cell_on cell) line lines _ _ _ (one.cells cell) (rest.cells cell);
  memories = λ name. one_more (memory_on name) line lines _ _ _ (one.memories name) (rest.memories name);
  runs =
      rest.runs ∙ ap (λ kept. kept ++ runs_told lines) one.runs
      ∙ append_assoc (kept_runs old) (cons_option (run_on line) []) (runs_told lines)
      ∙ ap (λ told. kept_runs old ++ told) (cons-append (run_on line) [] (runs_told lines));
}

-- a line that says nothing
pub adds_plain : (line : List ℕ) (lines : List (List ℕ)) (old new : Notes)
    → said_on line ≡ None → Adds lines old new → Adds (line ∷ lines) old new
adds_plain line lines old new none rest = record {
  places = λ mark. rw none (rest.places mark);
  cells = λ cell. rw none (rest.cells cell);
  memories = λ name. rw none (rest.memories name);
  runs = rw none rest.runs;
}

pub are_more : (lines more : List (List ℕ)) (old new : Notes) → AreNotes lines old → Adds more old new → AreNotes (lines ++ more) new
are_more lines more old new are adds = record {
  places = λ mark. adds.places mark ∙ ap (λ f. option_or f (first (mark_on mark) more)) (are.places mark) ∙ sym (first-append (mark_on mark) lines more);
  cells = λ cell. adds.cells cell ∙ ap (λ f. option_or f (first (cell_on cell) more)) (are.cells cell) ∙ sym (first-append (cell_on cell) lines more);
  memories = λ name. adds.memories name ∙ ap (λ f. option_or f (first (memory_on name) more)) (are.memories name) ∙ sym (first-append (memory_on name) lines more);
  runs = adds.runs ∙ ap (λ f. f ++ runs_told more) are.runs ∙ sym (runs-append lines more);
}

-- ---- one line that says something

pub adds_mark : (line : List ℕ) (mark : ℕ) (place : List ℕ) (old new : Notes) → said_on line ≡ Some (OfMark mark place)
    → ((other : ℕ) → place_in new.places other ≡ option_or (place_in old.places other) (cond (mark == other) (Some place) None))
    → new.cells ≡ old.cells → new.memories ≡ old.memories → new.runs ≡ old.runs → Adds (line ∷ []) old new
adds_mark line mark place old new says put cells memories runs = record {
  places = λ other. rw (says, or-none) (put other);
  cells = λ cell. rw (says, or-none) (ap (λ texts. text_in texts cell) cells);
  memories = λ name. rw (says, or-none) (ap (λ texts. text_in texts name) memories);
  runs = rw (says, append-nil) (ap (λ texts. map string_bytes texts.items) runs);
}

pub adds_cell : (line cell text : List ℕ) (old new : Notes) → said_on line ≡ Some (OfCell cell text)
    → ((other : List ℕ) → text_in new.cells other ≡ option_or (text_in old.cells other) (cond (bytes_eq cell other) (Some text) None))
    → new.places ≡ old.places → new.memories ≡ old.memories → new.runs ≡ old.runs → Adds (line ∷ []) old new
adds_cell line cell text old new says put places memories runs = record {
  places = λ other. rw (says, or-none) (ap (λ texts. place_in texts other) places);
  cells = λ other. rw (says, or-none) (put other);
  memories = λ name. rw (says, or-none) (ap (λ texts. text_in texts name) memories);
  runs = rw (says, append-nil) (ap (λ texts. map string_bytes texts.items) runs);
}

pub adds_memory : (line name text : List ℕ) (old new : Notes) → said_on line ≡ Some (OfMemory name text)
    → ((other : List ℕ) → text_in new.memories other ≡ option_or (text_in old.memories other) (cond (bytes_eq name other) (Some text) None))
    → new.places ≡ old.places → new.cells ≡ old.cells → new.runs ≡ old.runs → Adds (line ∷ []) old new
adds_memory line name text old new says put places cells runs = record {
  places = λ other. rw (says, or-none) (ap (λ texts. place_in texts other) places);
  cells = λ cell. rw (says, or-none) (ap (λ texts. text_in texts cell) cells);
  memories = λ other. rw (says, or-none) (put other);
  runs = rw (says, append-nil) (ap (λ texts. map string_bytes texts.items) runs);
}

pub adds_run : (line text : List ℕ) (old new : Notes) → said_on line ≡ Some (OfRun text)
    → map string_bytes new.runs.items ≡ map string_bytes old.runs.items ++ text ∷ []
    → new.places ≡ old.places → new.cells ≡ old.cells → new.memories ≡ old.memories → Adds (line ∷ []) old new
adds_run line text old new says put places cells memories = record {
  places = λ other. rw (says, or-none) (ap (λ texts. place_in texts other) places);
  cells = λ cell. rw (says, or-none) (ap (λ texts. text_in texts cell) cells);
  memories = λ name. rw (says, or-none) (ap (λ texts. text_in texts name) memories);
  runs = rw says put;
}

pub adds_nothing : (line : List ℕ) (notes : Notes) → said_on line ≡ None → Adds (line ∷ []) notes notes
adds_nothing line notes says = adds_plain line [] notes notes says (adds_none notes)

-- ---- the lines of a text, one by one

lines_next : (rest line behind : List ℕ) → pieces rest ≡ line ∷ pieces behind → lines rest ≡ strip_carriage_return line ∷ lines behind
lines_next rest line behind e = ap (map strip_carriage_return) e

pub next_adds : (rest line behind cut : List ℕ) (old now last : Notes) → pieces rest ≡ line ∷ pieces behind
    → cut ≡ strip_carriage_return line → Adds (cut ∷ []) old now → Adds (lines behind) now last → Adds (lines rest) old last
next_adds rest line behind cut old now last e stripped one adds =
    let e' : lines rest ≡ cut ∷ lines behind = lines_next rest line behind e ∙ ap (λ l. l ∷ lines behind) (sym stripped) in
    rw e' (adds_more cut (lines behind) old now last one adds)

pub next_plain : (rest line behind cut : List ℕ) (old last : Notes) → pieces rest ≡ line ∷ pieces behind
    → cut ≡ strip_carriage_return line → is_comment cut ≡ false → Adds (lines behind) old last → Adds (lines rest) old last
next_plain rest line behind cut old last e stripped none adds =
    let e' : lines rest ≡ cut ∷ lines behind = lines_next rest line behind e ∙ ap (λ l. l ∷ lines behind) (sym stripped) in
    rw e' (adds_plain cut (lines behind) old last (plain_line cut none) adds)

pub no_more : (rest : List ℕ) (notes : Notes) → (length rest == 0) ≡ true → Adds (lines rest) notes notes
no_more [] notes none = adds_none notes
no_more (byte ∷ bytes) notes none = absurd (grind (arith, nat_tests))
