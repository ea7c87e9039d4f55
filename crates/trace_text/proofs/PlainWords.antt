-- Words separated by one space are read as those words.
use Rattle.std.proofs.Common.{◌≡◌, ℕ, suc, ◌+◌, ◌-◌, ◌<◌, ◌≤◌, ◌∷◌, ◌++◌, [], List, length, true, false, Bool, arith, refl, ap, sym, ◌∙◌, get_or, zero, ◌^◌, append_assoc}
use Rattle.std.proofs.Math.Seq.{take-length}
use Rattle.std.specs.Prelude.{◌==◌, IsTrue, map, flat_map}
use Rattle.std.specs.List.{AllByRecursion, before_first, position_or_len, onto_first}
use Rattle.std.specs.Char.{is_ascii_digit, is_ascii_lowercase}
use Rattle.std.specs.Str.{all_ascii_digits}
use Rattle.std.specs.Str.Lines.{strip_carriage_return}
use Rattle.std.specs.Fmt.{decimal}
use Rattle.std.proofs.lemmas.Bool.Decides.{nat_tests}
use Rattle.std.proofs.lemmas.Fmt.{digits_decimal, digits_value-decimal, decimal_is_IsNumeral}
use Rattle.std.proofs.lemmas.List.Elements.{recursion_from_All, All-from_recursion}
use Rattle.std.proofs.lemmas.Str.Parse.{IsNumeralModel, numerals_by_value, tells_all_ascii_digits}
use Rattle.std.specs.Str.Parse.{digits_value}
use Rattle.text_words.specs.Text.{pieces, lines, words, split_words, is_text_byte, IsTextLine, is_blank, is_hash, IsName, is_name_byte, IsNumber}
use Rattle.trace_text.specs.Printing.{spaced, behind_space}
use Rattle.trace_text.specs.Plain.{is_word_byte, IsPlain, ArePlain}
use Rattle.text_words.proofs.WordsOfLine.{take_word, HasNoBlank}
use Rattle.trace_text.proofs.Kept.{both_true}

-- ---- bytes of words

word_is_text : (byte : ℕ) → IsTrue (is_word_byte byte) → IsTrue (is_text_byte byte)
word_is_text byte h = grind (arith, nat_tests)

word_no_blank : (byte : ℕ) → IsTrue (is_word_byte byte) → is_blank byte ≡ false
word_no_blank byte h = grind (arith, nat_tests)

word_no_hash : (byte : ℕ) → IsTrue (is_word_byte byte) → is_hash byte ≡ false
word_no_hash byte h = grind (arith, nat_tests)

rec_weaker : (P Q : ℕ → Type 0) → ((byte : ℕ) → P byte → Q byte) → (xs : List ℕ) → AllByRecursion P xs → AllByRecursion Q xs
rec_weaker P Q f [] h = tt
rec_weaker P Q f (x ∷ xs) h = (f x h.0, rec_weaker P Q f xs h.1)

pub rec_append : (P : ℕ → Type 0) (xs ys : List ℕ) → AllByRecursion P xs → AllByRecursion P ys → AllByRecursion P (xs ++ ys)
rec_append P [] ys h k = k
rec_append P (x ∷ xs) ys h k = (h.0, rec_append P xs ys h.1 k)

module _ (P : ℕ → Type 0) (space : P 32) (of_word : (byte : ℕ) → IsTrue (is_word_byte byte) → P byte) where
  behind_all : (words : List (List ℕ)) → ArePlain words → AllByRecursion P (behind_space words)
  behind_all [] h = tt
  behind_all (word ∷ words) h = (space, rec_append P word (behind_space words) (rec_weaker _ P of_word word h.0.1) (behind_all words h.1))

  pub spaced_all : (words : List (List ℕ)) → ArePlain words → AllByRecursion P (spaced words)
  spaced_all [] h = tt
  spaced_all (word ∷ words) h = rec_append P word (behind_space words) (rec_weaker _ P of_word word h.0.1) (behind_all words h.1)

-- ---- words of the line

no_blank : (word : List ℕ) → AllByRecursion (λ byte. IsTrue (is_word_byte byte)) word → HasNoBlank word
no_blank word h = All-from_recursion _ word (rec_weaker _ (λ byte. is_blank byte ≡ false) word_no_blank word h)

split_spaced : (word : List ℕ) (words : List (List ℕ)) → IsPlain word → ArePlain words → split_words (word ++ behind_space words) ≡ word ∷ words
split_spaced word [] p h = take_word word [] [] p.0 (no_blank word p.1) tt tt (omega arith) (λ e. refl)
split_spaced word (next ∷ words) p h =
    take_word word (32 ∷ []) (next ++ behind_space words) p.0 (no_blank word p.1) (refl, tt) (refl, tt) (omega arith) (λ e. absurd (omega arith))
    ∙ ap (λ (ws : List (List ℕ)). word ∷ ws) (split_spaced next words h.0 h.1)

none_first : (test : ℕ → Bool) (xs : List ℕ) → AllByRecursion (λ x. test x ≡ false) xs → position_or_len test xs ≡ length xs
none_first test [] h = refl
none_first test (x ∷ xs) h = rw h.0 (ap (λ (n : ℕ). 1 + n) (none_first test xs h.1) ∙ (let e : 1 + length xs ≡ suc (length xs) = omega arith in e))

before_none : (test : ℕ → Bool) (xs : List ℕ) → AllByRecursion (λ x. test x ≡ false) xs → before_first test xs ≡ xs
before_none test xs h = rw (none_first test xs h) (take-length xs)

pub words_spaced : (word : List ℕ) (more : List (List ℕ)) → ArePlain (word ∷ more) → words (spaced (word ∷ more)) ≡ word ∷ more
words_spaced word more h =
    ap split_words (before_none is_hash (spaced (word ∷ more)) (spaced_all (λ byte. is_hash byte ≡ false) refl word_no_hash (word ∷ more) h))
    ∙ split_spaced word more h.0 h.1

pub text_spaced : (all : List (List ℕ)) → ArePlain all → IsTextLine (spaced all)
text_spaced all h = All-from_recursion _ (spaced all) (spaced_all (λ byte. IsTrue (is_text_byte byte)) refl word_is_text all h)

-- ---- lines of the text

text_no_feed : (byte : ℕ) → IsTrue (is_text_byte byte) → (byte == 10) ≡ false
text_no_feed byte h = grind (arith, nat_tests)

one_piece : (line rest : List ℕ) → AllByRecursion (λ byte. IsTrue (is_text_byte byte)) line → pieces (line ++ 10 ∷ rest) ≡ line ∷ pieces rest
one_piece [] rest h = refl
one_piece (byte ∷ line) rest h = rw (text_no_feed byte h.0) (ap (onto_first byte) (one_piece line rest h.1))

text_no_return : (byte : ℕ) → IsTrue (is_text_byte byte) → (byte == 13) ≡ false
text_no_return byte h = grind (arith, nat_tests)

text_at : (line : List ℕ) (n : ℕ) → AllByRecursion (λ byte. IsTrue (is_text_byte byte)) line → (get_or line n 0 == 13) ≡ false
text_at [] n h = refl
text_at (byte ∷ line) zero h = text_no_return byte h.0
text_at (byte ∷ line) (suc n) h = text_at line n h.1

abbrev pub AreText : List (List ℕ) → Type 0
AreText [] = Unit {0}
AreText (line ∷ ls) = IsTextLine line × AreText ls

no_return : (line : List ℕ) → IsTextLine line → strip_carriage_return line ≡ line
no_return line h = rw (text_at line (length line - 1) (recursion_from_All _ _ h)) refl

-- the first line, which a line feed ends
pub line_ended : (line rest : List ℕ) → IsTextLine line → lines (line ++ 10 ∷ rest) ≡ line ∷ lines rest
line_ended line rest h =
    ap (map strip_carriage_return) (one_piece line rest (recursion_from_All _ _ h)) ∙ ap (λ (l : List ℕ). l ∷ lines rest) (no_return line h)

pub lines_ended : (ls : List (List ℕ)) → AreText ls → lines (flat_map (λ line. line ++ 10 ∷ []) ls) ≡ ls
lines_ended [] h = refl
lines_ended (line ∷ ls) h =
    let rest = flat_map (λ l. l ++ 10 ∷ []) ls in
    let whole : (line ++ 10 ∷ []) ++ rest ≡ line ++ 10 ∷ rest = simp append_assoc in
    ap lines whole ∙ (line_ended line rest h.0 ∙ ap (λ (t : List (List ℕ)). line ∷ t) (lines_ended ls h.1))

-- ---- numbers and names

pub own_digits : IsNumeralModel (λ ds. all_ascii_digits ds ≡ true) (digits_value 10)
own_digits = numerals_by_value _ tells_all_ascii_digits

digit_is_word : (byte : ℕ) → IsTrue (is_ascii_digit byte) → IsTrue (is_word_byte byte)
digit_is_word byte h = grind (arith, nat_tests)

pub digits_plain : (ds : List ℕ) → all_ascii_digits ds ≡ true → AllByRecursion (λ byte. IsTrue (is_word_byte byte)) ds
digits_plain [] h = tt
digits_plain (d ∷ ds) h = (digit_is_word d (both_true _ _ h).0, digits_plain ds (both_true _ _ h).1)

pub decimal_number : (n : ℕ) → n ≤ 18446744073709551615 → IsNumber (decimal n) n
decimal_number n l =
    let small : n < 2 ^ 64 = omega arith in
    ((decimal_is_IsNumeral n small).0.0, digits_decimal own_digits n small, sym (digits_value-decimal own_digits n small))

pub decimal_plain : (n : ℕ) → n ≤ 18446744073709551615 → IsPlain (decimal n)
decimal_plain n l = let number = decimal_number n l in (number.0, digits_plain (decimal n) number.1)

name_is_word : (byte : ℕ) → IsTrue (is_name_byte byte) → IsTrue (is_word_byte byte)
name_is_word byte h = grind (arith, nat_tests)

lower_is_word : (byte : ℕ) → IsTrue (is_ascii_lowercase byte) → IsTrue (is_word_byte byte)
lower_is_word byte h = grind (arith, nat_tests)

pub name_plain : (name : List ℕ) → IsName name → IsPlain name
name_plain [] h = absurd h
name_plain (byte ∷ bytes) h = (omega arith, (lower_is_word byte h.0, rec_weaker _ _ name_is_word bytes (recursion_from_All _ _ h.1)))
