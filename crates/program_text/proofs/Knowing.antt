-- Words that make a function known.
use Rattle.std.proofs.Common.{◌≡◌, ℕ, zero, suc, ◌+◌, ◌<◌, ◌∷◌, [], List, Bool, true, false, not, cond, length, take, arith, refl, sym, ap, ◌∙◌, subst}
use Rattle.std.specs.Prelude.{◌↔◌, ◌&&◌, IsTrue, nat_lt, Option, None, position}
use Rattle.std.specs.List.{All, list_all, position_or_len, before_first}
use Rattle.std.specs.Char.{is_ascii_lowercase}
use Rattle.std.proofs.lemmas.Bool.Decides.{nat_tests}
use Rattle.std.proofs.lemmas.List.Sums.{AllPass-from_list_all, list_all-from_AllPass}
use Rattle.text_words.specs.Text.{IsName, IsTextLine, is_name_byte, is_text_byte, is_hash, words, split_words, lines}
use Rattle.program_text.specs.Functions.{is_name_word, function_in, function_named, with_function, functions_from}

-- ---- names

all_of : (bytes : List ℕ) → IsTrue (list_all is_name_byte bytes) → All (λ c. IsTrue (is_name_byte c)) bytes
all_of bytes h = AllPass-from_list_all is_name_byte bytes h

of_all : (bytes : List ℕ) → All (λ c. IsTrue (is_name_byte c)) bytes → IsTrue (list_all is_name_byte bytes)
of_all bytes h = list_all-from_AllPass is_name_byte bytes h

three : (a b c : Bool) → IsTrue (a && b && c) → IsTrue a × IsTrue b × IsTrue c
three true true c h = (refl, refl, h)
three true false c h = cc
three false b c h = cc

all_three : (a b c : Bool) → IsTrue a → IsTrue b → IsTrue c → IsTrue (a && b && c)
all_three true true c h k l = l
all_three true false c h k l = cc
all_three false b c h k l = cc

below : (n : ℕ) → IsTrue (nat_lt n 32) → n < 32
below n h = grind (arith, nat_tests)

is_below : (n : ℕ) → n < 32 → IsTrue (nat_lt n 32)
is_below n h = grind (arith, nat_tests)

name_of_word : (word : List ℕ) → IsTrue (is_name_word word) → IsName word
name_of_word [] h = cc
name_of_word (byte ∷ bytes) h =
    let parts = three (is_ascii_lowercase byte) (nat_lt (length bytes) 32) (list_all is_name_byte bytes) h in
    (parts.0, all_of bytes parts.2, below (length bytes) parts.1)

pub word_of_name : (word : List ℕ) → IsName word → IsTrue (is_name_word word)
word_of_name [] h = absurd h
word_of_name (byte ∷ bytes) h =
    all_three (is_ascii_lowercase byte) (nat_lt (length bytes) 32) (list_all is_name_byte bytes) h.0 (is_below (length bytes) h.2) (of_all bytes h.1)

same_test : (a b : Bool) → (IsTrue a → IsTrue b) → (IsTrue b → IsTrue a) → a ≡ b
same_test true b f g = sym (f refl)
same_test false true f g = let e : false ≡ true = g refl in cc
same_test false false f g = refl

pub name_decides : (r : Bool) (word : List ℕ) → IsTrue r ↔ IsName word → r ≡ is_name_word word
name_decides r word h = same_test r (is_name_word word) (λ t. word_of_name word (h.0 t)) (λ t. h.1 (name_of_word word t))

-- ---- what stands before a comment

one_more : (n : ℕ) → 1 + n ≡ suc n
one_more n = omega arith

module _ (test : ℕ → Bool) where
  none_before_by : (b : Bool) (byte : ℕ) (bytes : List ℕ) (n : ℕ) → test byte ≡ b → position_or_len test (take n bytes) ≡ n
      → position_or_len test (take (cond (not b) (1 + n) 0) (byte ∷ bytes)) ≡ cond (not b) (1 + n) 0
  none_before_by true byte bytes n e h = refl
  none_before_by false byte bytes n e h =
      rw (one_more n) (ap (λ (t : Bool). cond (not t) (1 + position_or_len test (take n bytes)) 0) e ∙ (ap (λ (m : ℕ). 1 + m) h ∙ one_more n))

  none_before : (bytes : List ℕ) → position_or_len test (take (position_or_len test bytes) bytes) ≡ position_or_len test bytes
  none_before [] = refl
  none_before (byte ∷ bytes) = none_before_by (test byte) byte bytes (position_or_len test bytes) refl (none_before bytes)

  take_twice : (n : ℕ) (bytes : List ℕ) → take n (take n bytes) ≡ take n bytes
  take_twice zero bytes = refl
  take_twice (suc n) [] = refl
  take_twice (suc n) (byte ∷ bytes) = ap (λ (t : List ℕ). byte ∷ t) (take_twice n bytes)

  pub before_twice : (bytes : List ℕ) → before_first test (before_first test bytes) ≡ before_first test bytes
  before_twice bytes =
      ap (λ (n : ℕ). take n (take (position_or_len test bytes) bytes)) (none_before bytes) ∙ take_twice (position_or_len test bytes) bytes

-- ---- the function that a line makes known

pub known_by : (line text front : List ℕ) (ws : List (List ℕ)) (r : Option (List ℕ)) → front ≡ before_first is_hash line → text ≡ front → IsTextLine front → ws ≡ words text
    → r ≡ function_in ws → r ≡ function_named line
known_by line text front ws r e f t w h =
    let all : list_all is_text_byte (before_first is_hash line) ≡ true =
    list_all-from_AllPass is_text_byte (before_first is_hash line) (subst (λ (bytes : List ℕ). IsTextLine bytes) e t) in
    let same : words text ≡ words line = ap words (f ∙ e) ∙ ap split_words (before_twice is_hash line) in
    h ∙ (ap function_in (w ∙ same) ∙ ap (λ (b : Bool). cond b (function_in (words line)) None) (sym all))

pub unknown_by : (line front : List ℕ) → front ≡ before_first is_hash line → (IsTextLine front → ⊥) → None ≡ function_named line
unknown_by line front e out = by (list_all is_text_byte (before_first is_hash line)) (λ h. out (subst (λ (bytes : List ℕ). IsTextLine bytes) (sym e) (AllPass-from_list_all is_text_byte (before_first is_hash line) h)))
  where
    by : (b : Bool) → (b ≡ true → ⊥) → None ≡ cond b (function_in (words line)) None
    by true out = absurd (out refl)
    by false out = refl

-- ---- the functions of a text

-- one line is read
pub names_step : (names : List (List ℕ)) (ls : List (List ℕ)) (line : List ℕ) (after : List (List ℕ)) → ls ≡ line ∷ after
    → functions_from names ls ≡ functions_from (with_function names (function_named line)) after
names_step names ls line after e = ap (functions_from names) e

pub names_done : (names : List (List ℕ)) (ls : List (List ℕ)) → ls ≡ [] → functions_from names ls ≡ names
names_done names ls e = ap (functions_from names) e

pub no_lines : (text : List ℕ) → length text ≡ 0 → lines text ≡ []
no_lines [] e = refl
no_lines (byte ∷ bytes) e = absurd (omega (arith, e))
