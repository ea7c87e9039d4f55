-- The words of a line, one at a time.
use Rattle.std.proofs.Common.{◌≡◌, ◌≢◌, ℕ, ◌<◌, ◌≤◌, ◌+◌, ◌∷◌, ◌++◌, [], List, length, true, false, Bool, cond, not, suc, take, take_all, arith, refl, ap, sym, ◌∙◌, get_or, lit<}
use Rattle.std.specs.Prelude.{◌==◌, filter, position, IsTrue, Option, None, Some, MatchOption}
use Rattle.std.specs.List.{All, AllByRecursion, AllPass, before_first, list_all, position_or_len, slice_split}
use Rattle.std.specs.Char.{is_ascii_whitespace}
use Rattle.std.specs.Str.{IsUtf8, NoCharPasses, NonePass}
use Rattle.std.specs.Str.Iter.{IsAsciiSeparator, split_ascii_whitespace_text, split_ascii_whitespace_steps}
use Rattle.std.specs.declared.str.SplitAsciiWhitespace.{SplitAscii}
use denote.Ref.{Bor}
use Rattle.std.proofs.lemmas.Bool.Decides.{nat_tests}
use Rattle.std.proofs.lemmas.List.{get_or_default, append-nil}
use Rattle.std.proofs.lemmas.List.Elements.{recursion_from_All, All-from_recursion}
use Rattle.std.proofs.lemmas.List.Sums.{AllPass-from_list_all, list_all-from_AllPass}
use Rattle.std.proofs.lemmas.List.Splits.{slice_split_at, slice_split_none}
use Rattle.std.proofs.lemmas.Option.{cond_some}
use Rattle.std.proofs.lemmas.Str.{IsUtf8-from_ascii}
use Rattle.std.proofs.lemmas.Str.Ascii.{IsAscii-from_all}
use Rattle.std.proofs.lemmas.Str.Pattern.{NoCharPasses-char}
use Rattle.text_words.specs.Text.{is_text_byte, IsTextLine, is_blank, is_hash, is_nonempty, split_words}

-- ---- what stands before the comment of a line

position_in_length : (bytes : List ℕ) → position_or_len is_hash bytes ≤ length bytes
position_in_length [] = omega arith
position_in_length (byte ∷ bytes) = by (not (is_hash byte)) (position_or_len is_hash bytes) (length bytes) (position_in_length bytes)
  where
    by : (b : Bool) (m n : ℕ) → m ≤ n → cond b (1 + m) 0 ≤ suc n
    by true m n h = omega arith
    by false m n h = omega arith

pub comment_found : (line : List ℕ) (at : ℕ) → position is_hash line ≡ Some at → take at line ≡ before_first is_hash line
comment_found line at is = ap (λ n. take n line) (sym (cond_some _ (position_or_len is_hash line) at is).1)

pub no_comment : (line : List ℕ) → position is_hash line ≡ None → line ≡ before_first is_hash line
no_comment line is =
    let e : position_or_len is_hash line ≡ length line = grind (arith, nat_tests, position_in_length line) in
    rw e (sym (take_all _ line (omega arith)))

-- ---- a line of text is UTF-8

text_is_ascii : (byte : ℕ) → IsTrue (is_text_byte byte) → byte < 128
text_is_ascii byte h = grind (arith, nat_tests)

pub text_is_utf8 : (line : List ℕ) → IsTextLine line → IsUtf8 line
text_is_utf8 line h = IsUtf8-from_ascii line (IsAscii-from_all line (λ i d l. text_is_ascii _ (h i d l)))

pub is_text_line : (line : List ℕ) → list_all is_text_byte line ≡ true → IsTextLine line
is_text_line line all = AllPass-from_list_all is_text_byte line all

pub is_no_text_line : (line : List ℕ) → list_all is_text_byte line ≡ false → IsTextLine line → ⊥
is_no_text_line line some text = let all : list_all is_text_byte line ≡ true = list_all-from_AllPass is_text_byte line text in absurd (cc)

-- ---- the tests of bytes agree in it

abbrev pub AreText : List ℕ → Type 0
AreText line = AllByRecursion (λ byte. IsTrue (is_text_byte byte)) line

abbrev pub AreWhite : List ℕ → Type 0
AreWhite gap = AllByRecursion (λ byte. is_ascii_whitespace byte ≡ true) gap

abbrev pub HasNoBlank : List ℕ → Type 0
HasNoBlank word = All (λ byte. is_blank byte ≡ false) word

white_is_blank : (byte : ℕ) → IsTrue (is_text_byte byte) → is_ascii_whitespace byte ≡ true → is_blank byte ≡ true
white_is_blank byte t w = grind (arith, nat_tests)

no_blank_byte : (byte : ℕ) → byte ≢ 32 → byte ≢ 9 → is_blank byte ≡ false
no_blank_byte byte s t = grind (arith, nat_tests)

not_white : (byte c : ℕ) → is_ascii_whitespace c ≡ true → is_ascii_whitespace byte ≡ false → (byte == c) ≡ false
not_white byte c w h = grind (arith, nat_tests)

none_is : (c : ℕ) (cs : List ℕ) → is_ascii_whitespace c ≡ true → NonePass is_ascii_whitespace cs → NonePass (λ d. d == c) cs
none_is c [] w h = h
none_is c (d ∷ cs) w h = (not_white d c w h.0, none_is c cs w h.1)

word_has_no : (c : ℕ) (word : List ℕ) → is_ascii_whitespace c ≡ true → c < 128 → NoCharPasses is_ascii_whitespace word
    → (i : ℕ) → i < length word → get_or word i 0 ≢ c
word_has_no c word w small h i l = NoCharPasses-char c word i (h.0, h.1, none_is c h.0 w h.2) small l

word_has_no_blank : (word : List ℕ) → NoCharPasses is_ascii_whitespace word → HasNoBlank word
word_has_no_blank word h i d l =
    rw (get_or_default word i d 0 l)
    (no_blank_byte _ (word_has_no 32 word refl (lit< tt) h i l) (word_has_no 9 word refl (lit< tt) h i l))

text_parts : (xs ys : List ℕ) → AreText (xs ++ ys) → AreText xs × AreText ys
text_parts [] ys h = (tt, h)
text_parts (x ∷ xs) ys h = let p = text_parts xs ys h.1 in ((h.0, p.0), p.1)

-- ---- a gap, a word, and what separates it from the rest

skip_gap : (gap rest : List ℕ) → AreText gap → AreWhite gap → split_words (gap ++ rest) ≡ split_words rest
skip_gap [] rest t w = refl
skip_gap (byte ∷ gap) rest t w = rw (white_is_blank byte t.0 w.0) (skip_gap gap rest t.1 w.1)

keep_word : (word : List ℕ) (words : List (List ℕ)) → 0 < length word → filter is_nonempty (word ∷ words) ≡ word ∷ filter is_nonempty words
keep_word [] words l = absurd (omega arith)
keep_word (byte ∷ word) words l = refl

-- a separator is one blank, or nothing is left behind it
pub take_word : (word sep rest : List ℕ) → 0 < length word → HasNoBlank word → AreText sep → AreWhite sep → length sep ≤ 1 → (length sep ≡ 0 → length rest ≡ 0)
    → split_words (word ++ (sep ++ rest)) ≡ word ∷ split_words rest
take_word word [] [] l none t w short last =
    rw append-nil (ap (filter is_nonempty) (slice_split_none is_blank word none) ∙ keep_word word [] l)
take_word word [] (byte ∷ rest) l none t w short last = absurd (omega (arith, last refl))
take_word word (blank ∷ []) rest l none t w short last =
    ap (filter is_nonempty) (slice_split_at is_blank word blank rest none (white_is_blank blank t.0 w.0)) ∙ keep_word word (slice_split is_blank rest) l
take_word word (blank ∷ more ∷ sep) rest l none t w short last = absurd (omega arith)

-- what one turn of the search for words finds
pub cut_word : (line word gap sep rest : List ℕ) → IsTextLine line → line ≡ gap ++ (word ++ (sep ++ rest)) → AllPass is_ascii_whitespace gap
    → IsAsciiSeparator sep rest → 0 < length word → NoCharPasses is_ascii_whitespace word
    → (split_words line ≡ word ∷ split_words rest) × IsTextLine rest
cut_word line word gap sep rest text e white separator l none =
    let all : AreText (gap ++ (word ++ (sep ++ rest))) = recursion_from_All _ _ (rw e at text) in
    let behind = text_parts gap (word ++ (sep ++ rest)) all in
    let after = text_parts word (sep ++ rest) behind.1 in
    let last = text_parts sep rest after.1 in (
      rw e (skip_gap gap (word ++ (sep ++ rest)) behind.0 (recursion_from_All _ _ white)
          ∙ take_word word sep rest l (word_has_no_blank word none) last.0 (recursion_from_All _ _ separator.0) separator.1 separator.2),
      All-from_recursion _ _ last.1,
    )

pub no_word : (line : List ℕ) → IsTextLine line → AllPass is_ascii_whitespace line → split_words line ≡ []
no_word line text white =
    ap split_words (sym (append-nil line)) ∙ skip_gap line [] (recursion_from_All _ _ text) (recursion_from_All _ _ white)

none_left : (rest : List ℕ) → length rest ≡ 0 → split_words rest ≡ []
none_left [] e = refl
none_left (byte ∷ rest) e = absurd (omega arith)

none_is_text : (rest : List ℕ) → length rest ≡ 0 → IsTextLine rest
none_is_text rest e = λ i d l. absurd (omega arith)

-- what one step of the iterator gives
pub next_word : (before : SplitAscii) (answer : Option (Bor (List ℕ))) (after : SplitAscii) → IsTextLine (split_ascii_whitespace_text before)
    → split_ascii_whitespace_steps before answer after
    → MatchOption answer ((split_words (split_ascii_whitespace_text before) ≡ []) × (split_words (split_ascii_whitespace_text after) ≡ []))
    (λ word. split_words (split_ascii_whitespace_text before) ≡ word.now ∷ split_words (split_ascii_whitespace_text after))
    × IsTextLine (split_ascii_whitespace_text after)
next_word before None after text steps = ((no_word (split_ascii_whitespace_text before) text steps.0, none_left (split_ascii_whitespace_text after) steps.1), none_is_text (split_ascii_whitespace_text after) steps.1)
next_word before (Some word) after text steps =
    let parts = steps.3 in
    let cut = cut_word (split_ascii_whitespace_text before) word.now parts.0 parts.1 (split_ascii_whitespace_text after) text parts.2 parts.3 parts.4 steps.0 steps.1 in
    (cut.0, cut.1)
