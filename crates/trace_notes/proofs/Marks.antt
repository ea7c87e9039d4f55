-- Which words are the number of a mark, and which lines are text.
use Rattle.std.proofs.Common.{◌≡◌, ◌≢◌, ℕ, ◌<◌, ◌^◌, ◌&&◌, List, [], ◌∷◌, length, take, zero, suc, Bool, true, false, get_or, Option, Some, None, Result, Ok, Err, refl, ap, arith}
use Rattle.std.specs.Prelude.{cond}
use Rattle.std.specs.Result.{OkIff}
use Rattle.std.specs.List.{list_all}
use Rattle.std.specs.Int.{is_in_range}
use Rattle.std.specs.Str.{all_ascii_digits}
use Rattle.std.specs.Str.Parse.{digits_value, ParsesUnsigned}
use Rattle.std.proofs.lemmas.Str.Parse.{IsNumeralModel, numerals_by_value, tells_all_ascii_digits, parse_plain}
use Rattle.std.proofs.lemmas.Bool.{false_from_ne_true}
use Rattle.std.proofs.lemmas.Bool.Decides.{nat_tests}
use Rattle.std.proofs.lemmas.List.Sums.{list_all-from_AllPass}
use Rattle.text_words.specs.Text.{BeginsWithDigit, IsTextLine, is_text_byte, is_nonempty}
use Rattle.text_words.proofs.WordsOfLine.{is_text_line}
use Rattle.trace_notes.specs.Lines.{is_comment, is_mark, head_of, rest_of, said_by, said_on}

digits : IsNumeralModel (λ ds. all_ascii_digits ds ≡ true) (digits_value 10)
digits = numerals_by_value _ tells_all_ascii_digits

no_plus : (word : List ℕ) → BeginsWithDigit word → get_or word 0 0 ≢ 43
no_plus [] h = absurd h
no_plus (byte ∷ bytes) h = grind (arith, nat_tests)

some_digit : (word : List ℕ) → BeginsWithDigit word → is_nonempty word ≡ true
some_digit [] h = absurd h
some_digit (byte ∷ bytes) h = refl

parsed : {E : Type 0} (word : List ℕ) (r : Result ℕ E) → ParsesUnsigned 32 10 word r → BeginsWithDigit word
    → OkIff r ((all_ascii_digits word ≡ true) × (0 < length word) × (digits_value 10 word < 2 ^ 32)) (digits_value 10 word)
parsed word r h begins = parse_plain digits 32 word r h (no_plus word begins)

in_range : (n : ℕ) → 0 < n → n < 2 ^ 32 → is_in_range 1 4294967295 n ≡ true
in_range n low high = grind (arith, nat_tests)

from_range : (n : ℕ) → is_in_range 1 4294967295 n ≡ true → n < 2 ^ 32
from_range n h = grind (arith, nat_tests)

all_true : (a b c : Bool) → a ≡ true → b ≡ true → c ≡ true → (a && b && c) ≡ true
all_true a b c p q r = rw (p, q, r) refl

all_parts : (a b c : Bool) → (a && b && c) ≡ true → (b ≡ true) × (c ≡ true)
all_parts true true true h = (refl, refl)
all_parts true true false h = absurd (cc)
all_parts true false c h = absurd (cc)
all_parts false b c h = absurd (cc)

-- a number that was read is the mark
pub mark_read : (word : List ℕ) (n : ℕ) → ParsesUnsigned {E = Unit {0}} 32 10 word (Ok n) → BeginsWithDigit word → 0 < n
    → Some n ≡ cond (is_mark word) (Some (digits_value 10 word)) None
mark_read word n h begins some =
    let p = parsed {E = Unit {0}} word (Ok n) h begins in
    let is : is_mark word ≡ true = all_true _ _ _ (some_digit word begins) p.0.0 (in_range _ (omega (arith, p.1)) p.0.2) in
    rw is (ap Some p.1)

-- where none was read there is no mark
pub no_mark : (word : List ℕ) → ParsesUnsigned {E = Unit {0}} 32 10 word (Err tt) → BeginsWithDigit word
    → None ≡ cond (is_mark word) (Some (digits_value 10 word)) None
no_mark word h begins =
    let none : is_mark word ≡ false = false_from_ne_true _ (λ is.
    let parts = all_parts _ _ _ is in
    parsed {E = Unit {0}} word (Err tt) h begins (parts.0, length_some word begins, from_range _ parts.1)) in
    rw none refl
  where
    length_some : (word : List ℕ) → BeginsWithDigit word → 0 < length word
    length_some [] h = absurd h
    length_some (byte ∷ bytes) h = omega arith

-- ---- lines

pub all_text : (line : List ℕ) → IsTextLine line → list_all is_text_byte line ≡ true
all_text line text = list_all-from_AllPass is_text_byte line text

pub some_other : (line : List ℕ) → (IsTextLine line → ⊥) → list_all is_text_byte line ≡ false
some_other line none = false_from_ne_true _ (λ all. none (is_text_line line all))

-- ---- lines that are no notes

cond_none : {X : Type 0} (b : Bool) (x : Option X) → x ≡ None → cond b x None ≡ None
cond_none true x e = e
cond_none false x e = refl

no_word : (word rest : List ℕ) → is_comment word ≡ false → said_by word rest ≡ None
no_word [] rest h = refl
no_word (byte ∷ word) rest h = rw h refl

head_comment : (n : ℕ) (line : List ℕ) → is_comment line ≡ false → is_comment (take n line) ≡ false
head_comment zero line h = refl
head_comment (suc n) [] h = refl
head_comment (suc n) (byte ∷ bytes) h = h

pub plain_line : (line : List ℕ) → is_comment line ≡ false → said_on line ≡ None
plain_line line h = cond_none (list_all is_text_byte line) _ (no_word (head_of line) (rest_of line) (head_comment _ line h))
