-- What can be decided of numbers, lists, lines and words.
use Rattle.std.proofs.Common.{◌≡◌, ◌⊎◌, inl, inr, ℕ, ◌<◌, ◌≤◌, Bool, true, false, List, [], ◌∷◌, length, refl, subst, arith}
use Rattle.std.specs.List.{All}
use Rattle.std.specs.Char.{is_ascii_digit, is_ascii_lowercase}
use Rattle.std.specs.Str.{all_ascii_digits}
use Rattle.std.specs.Str.Parse.{digits_value}
use Rattle.std.proofs.lemmas.Bool.Decides.{leb_tells, eqb_tells}
use Rattle.std.proofs.lemmas.List.Elements.{All-nil, All-cons, All-head, All-tail}
use Rattle.text_words.specs.Text.{is_text_byte, IsTextLine, is_name_byte, IsName, IsNumberIn, BeginsWithDigit}

-- it holds, or it does not
abbrev pub OrNot : Type 0 → Type 0
OrNot P = P ⊎ (P → ⊥)

pub both_or_not : {A B : Type 0} → OrNot A → OrNot B → OrNot (A × B)
both_or_not (inl a) (inl b) = inl (a, b)
both_or_not (inl a) (inr fails) = inr (λ t. fails t.1)
both_or_not (inr fails) b = inr (λ t. fails t.0)

-- ---- numbers and lists

pub true_or_not : (b : Bool) → OrNot (b ≡ true)
true_or_not true = inl refl
true_or_not false = inr (λ e. cc)

pub number_or_not : (m n : ℕ) → OrNot (m ≡ n)
number_or_not m n = elim (eqb_tells m n) [ inl t ↦ inl t.1 | inr t ↦ inr t.1 ]

pub most_or_not : (m n : ℕ) → OrNot (m ≤ n)
most_or_not m n = elim (leb_tells m n) [ inl t ↦ inl t.1 | inr t ↦ inr (λ most. let less = t.1 in omega arith) ]

pub below_or_not : (m n : ℕ) → OrNot (m < n)
below_or_not m n = elim (leb_tells n m) [ inl t ↦ inr (λ less. let most = t.1 in omega arith) | inr t ↦ inl t.1 ]

pub same_parts : {X : Type 0} (x y : X) (xs ys : List X) → x ∷ xs ≡ y ∷ ys → (x ≡ y) × (xs ≡ ys)
same_parts x y xs ys e = (cc, cc)

pub word_or_not : (word other : List ℕ) → OrNot (word ≡ other)
word_or_not [] [] = inl refl
word_or_not [] (y ∷ ys) = inr (λ e. cc)
word_or_not (x ∷ xs) [] = inr (λ e. cc)
word_or_not (x ∷ xs) (y ∷ ys) = go (number_or_not x y) (word_or_not xs ys)
  where
    go : OrNot (x ≡ y) → OrNot (xs ≡ ys) → OrNot (x ∷ xs ≡ y ∷ ys)
    go (inl e) (inl f) = inl cc
    go (inl e) (inr fails) = inr (λ g. fails (same_parts x y xs ys g).1)
    go (inr fails) f = inr (λ g. fails (same_parts x y xs ys g).0)

pub empty_or_not : {X : Type 0} (xs : List X) → OrNot (xs ≡ [])
empty_or_not [] = inl refl
empty_or_not (x ∷ xs) = inr (λ e. cc)

pub all_or_not : {X : Type 0} (P : X → Type 0) → ((x : X) → OrNot (P x)) → (xs : List X) → OrNot (All P xs)
all_or_not P each [] = inl (All-nil P)
all_or_not P each (x ∷ xs) = go (each x) (all_or_not P each xs)
  where
    go : OrNot (P x) → OrNot (All P xs) → OrNot (All P (x ∷ xs))
    go (inl p) (inl all) = inl (All-cons P x xs p all)
    go (inl p) (inr fails) = inr (λ all. fails (All-tail P x xs all))
    go (inr fails) all = inr (λ all. fails (All-head P x xs all))

-- ---- lines and words

pub text_line_or_not : (line : List ℕ) → OrNot (IsTextLine line)
text_line_or_not line = all_or_not _ (λ byte. true_or_not (is_text_byte byte)) line

pub name_or_not : (word : List ℕ) → OrNot (IsName word)
name_or_not [] = inr (λ t. t)
name_or_not (byte ∷ bytes) = go (true_or_not (is_ascii_lowercase byte)) (all_or_not _ (λ c. true_or_not (is_name_byte c)) bytes) (below_or_not (length bytes) 32)
  where
    go : OrNot (is_ascii_lowercase byte ≡ true) → OrNot (All (λ c. is_name_byte c ≡ true) bytes) → OrNot (length bytes < 32) → OrNot (IsName (byte ∷ bytes))
    go (inl first) (inl all) (inl short) = inl (first, all, short)
    go (inl first) (inl all) (inr fails) = inr (λ t. fails t.2)
    go (inl first) (inr fails) short = inr (λ t. fails t.1)
    go (inr fails) all short = inr (λ t. fails t.0)

pub digit_or_not : (word : List ℕ) → OrNot (BeginsWithDigit word)
digit_or_not [] = inr (λ t. t)
digit_or_not (byte ∷ bytes) = true_or_not (is_ascii_digit byte)

-- the word stands for a number between the bounds, or for none
pub number_in_or_not : (low high : ℕ) (word : List ℕ) → ((n : ℕ) × IsNumberIn low high word n) ⊎ ((n : ℕ) → IsNumberIn low high word n → ⊥)
number_in_or_not low high word =
    go (below_or_not 0 (length word)) (true_or_not (all_ascii_digits word)) (most_or_not low (digits_value 10 word)) (most_or_not (digits_value 10 word) high)
  where
    go : OrNot (0 < length word) → OrNot (all_ascii_digits word ≡ true) → OrNot (low ≤ digits_value 10 word) → OrNot (digits_value 10 word ≤ high) →
        ((n : ℕ) × IsNumberIn low high word n) ⊎ ((n : ℕ) → IsNumberIn low high word n → ⊥)
    go (inl some) (inl digits) (inl above) (inl below) = inl (digits_value 10 word, ((some, digits, refl), above, below))
    go (inr fails) digits above below = inr (λ n m. fails m.0.0)
    go (inl some) (inr fails) above below = inr (λ n m. fails m.0.1)
    go (inl some) (inl digits) (inr fails) below = inr (λ n m. fails (subst (λ k. low ≤ k) m.0.2 m.1))
    go (inl some) (inl digits) (inl above) (inr fails) = inr (λ n m. fails (subst (λ k. k ≤ high) m.0.2 m.2))
