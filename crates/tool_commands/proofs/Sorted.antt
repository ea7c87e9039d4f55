-- What the lines of a text decide, one after another.
use Rattle.std.proofs.Common.{◌≡◌, ℕ, false, List, [], ◌∷◌, Option, Some, None, map, refl, sym, ap, ◌∙◌, cond, filter}
use Rattle.std.specs.List.{before_first, find, slice_split}
use Rattle.text_words.specs.Text.{is_hash, is_blank, is_nonempty, IsTextLine}
use Rattle.std.specs.Option.{option_map, MatchOption}
use Rattle.std.specs.Str.Lines.{strip_carriage_return}
use denote.Ref.{Bor}
use Rattle.text_words.specs.Text.{pieces, lines}
use Rattle.trace_notes.proofs.Marks.{all_text, some_other}
use Rattle.tool_commands.specs.Sorts.{first_among, text_word, first_word, decided, comes_to_function, behind_header, is_program_text}

lines_split : (text line rest : List ℕ) → pieces text ≡ line ∷ pieces rest → lines text ≡ strip_carriage_return line ∷ lines rest
lines_split text line rest is = ap (map strip_carriage_return) is

-- what the lines behind the first decide is what the text is to mean
pub header_passed : (text line rest : List ℕ) → pieces text ≡ line ∷ pieces rest → comes_to_function (lines rest) ≡ is_program_text text
header_passed text line rest is = sym (ap (λ all. comes_to_function (behind_header all)) (lines_split text line rest is))

-- what some lines decide, by the first of them
pub line_passed : (rest line behind : List ℕ) → pieces rest ≡ line ∷ pieces behind →
    comes_to_function (lines rest) ≡ decided (first_word (strip_carriage_return line)) (comes_to_function (lines behind))
line_passed rest line behind is = ap comes_to_function (lines_split rest line behind is)

pub nothing_left : (rest : List ℕ) → rest ≡ [] → comes_to_function (lines rest) ≡ false
nothing_left rest is = rw is refl

pub no_text : (text : List ℕ) → text ≡ [] → is_program_text text ≡ false
no_text text is = rw is refl

-- the first word, among what stands between blanks
pub first_found : (pieces : List (List ℕ)) → find is_nonempty pieces ≡ first_among (filter is_nonempty pieces)
first_found [] = refl
first_found ([] ∷ pieces) = first_found pieces
first_found ((byte ∷ bytes) ∷ pieces) = refl

-- the first piece is a word, unless a byte of it is one that no line may hold
pub text_found : (word : List ℕ) (result : Option (Bor (List ℕ))) → MatchOption result (IsTextLine word → ⊥) (λ text. (text.now ≡ word) × IsTextLine word) →
    option_map (λ text. text.now) result ≡ text_word (Some word)
text_found word None other = ap (λ b. cond b (Some word) None) (sym (some_other word other))
text_found word (Some text) is = ap Some is.0 ∙ ap (λ b. cond b (Some word) None) (sym (all_text word is.1))

pub word_found : (line : List ℕ) (found : Option (List ℕ)) → found ≡ find is_nonempty (slice_split is_blank (before_first is_hash line)) → text_word found ≡ first_word line
word_found line found is = ap text_word (is ∙ first_found (slice_split is_blank (before_first is_hash line)))
