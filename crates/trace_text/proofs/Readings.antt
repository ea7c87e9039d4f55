-- A word in its place means something or has a lowest cause why not.
use Rattle.std.proofs.Common.{◌≡◌, ◌≢◌, ◌⊎◌, inl, inr, ℕ, ◌+◌, ◌<◌, ◌≤◌, Bool, true, false, List, [], ◌∷◌, ◌++◌, refl, sym, ◌∙◌, ap, subst, arith}
use Rattle.std.specs.Prelude.{Option, Some, None, Result, Ok, Err, MatchResult, codes}
use Rattle.text_words.specs.declared.fault.Cause.{Cause}
use Rattle.text_words.specs.declared.fault.Cause.TheVariants.{NotText, BadHeader, BadWord, BadNumber, UnknownName, TwiceNamed}
use Rattle.text_words.specs.declared.value.Version.{Version}
use Rattle.text_words.specs.declared.value.Version.TheVariants.{One, Two}
use Rattle.model_reducers.specs.declared.monoid.Monoid.{Monoid}
use Rattle.model_reducers.specs.declared.monoid.Monoid.TheVariants.{Digits}
use Rattle.text_words.specs.declared.value.Mem.{Mem}
use Rattle.text_words.specs.Text.{IsName, IsNumberIn, BeginsWithDigit}
use Rattle.text_words.specs.Limits.{max_strand, max_value}
use Rattle.text_words.specs.Values.{Known, monoid_spelling}
use Rattle.text_words.specs.Names.{memory_named, reducer_named, IsDeclared, HasMonoid, MonoidMeans, SingleMeans, ElementMeans}
use Rattle.text_words.specs.Causes.{IsLowest, cause_number}
use Rattle.text_words.proofs.Decided.{OrNot, both_or_not, number_or_not, most_or_not, same_parts, word_or_not, name_or_not, digit_or_not, number_in_or_not}
use Rattle.trace_text.proofs.LineReadings.{Reading as ReadingBy}
use Rattle.trace_text.specs.Lines.{Place, FreshName, Number, Cell, ReducerName, MonoidWord, Mark, OfName, OfNumber, OfMonoid, WordMeans}
use Rattle.trace_text.specs.Faults.{IsUndeclared, WordFault}
use Rattle.trace_text.specs.Cells.{IsSingleFault, IsElementFault}
use Rattle.trace_text.specs.Outcome.{Reads}
use Rattle.trace_text.proofs.Keywords.{monoid_of_word, monoid_of_spelling}
use Rattle.trace_text.proofs.CellWords.{HasNoBracket, IsSplit, same_some, lowest_bad_word, single_is_cell, element_is_cell, no_closing, digits_begin}
use Rattle.trace_text.proofs.NamedWords.{number_fault}
use Rattle.trace_text.proofs.Outcomes.{lowest_bad_number, lowest_bad_mark}

abbrev pub Reading : Known → Place → List ℕ → Type 0
Reading known = ReadingBy (WordMeans known) (WordFault known)

-- ---- names, numbers, monoids and marks

module _ (known : Known) where
  pub number_reading : (low high : ℕ) (word : List ℕ) → Reading known (Number low high) word
  number_reading low high word = go (digit_or_not word) (number_in_or_not low high word)
    where
      go : OrNot (BeginsWithDigit word) → ((n : ℕ) × IsNumberIn low high word n) ⊎ ((n : ℕ) → IsNumberIn low high word n → ⊥) → Reading known (Number low high) word
      go begins (inl (n, m)) = (Ok (OfNumber n), m)
      go (inl begins) (inr none) = (Err BadNumber, lowest_bad_number known low high word begins none)
      go (inr fails) (inr none) = (Err BadWord, lowest_bad_word known (Number low high) word fails)

  fresh_reading : (word : List ℕ) → Reading known FreshName word
  fresh_reading word = go (name_or_not word) (memory_named known.mems word) (reducer_named known.reducers word) refl refl
    where
      below : IsName word → (lower : Cause) → cause_number lower < 6 → WordFault known FreshName word lower → ⊥
      below is NotText l f = f
      below is BadHeader l f = f
      below is BadWord l f = f is
      below is BadNumber l f = f
      below is UnknownName l f = f
      below is cause l f = absurd (omega arith)

      go : OrNot (IsName word) → (mem : Option Mem) (reducer : Option ℕ) → memory_named known.mems word ≡ mem → reducer_named known.reducers word ≡ reducer → Reading known FreshName word
      go (inr fails) mem reducer e f = (Err BadWord, lowest_bad_word known FreshName word fails)
      go (inl is) None None e f = (Ok (OfName word), (refl, is, (e, f)))
      go (inl is) (Some mem) reducer e f = (Err TwiceNamed, (λ fresh. let clash : Some mem ≡ None = sym e ∙ fresh.0 in cc, below is))
      go (inl is) None (Some reducer) e f = (Err TwiceNamed, (λ fresh. let clash : Some reducer ≡ None = sym f ∙ fresh.1 in cc, below is))

  reducer_reading : (word : List ℕ) → Reading known ReducerName word
  reducer_reading word = go (name_or_not word) (reducer_named known.reducers word) refl
    where
      below : IsName word → (lower : Cause) → cause_number lower < 5 → WordFault known ReducerName word lower → ⊥
      below is NotText l f = f
      below is BadHeader l f = f
      below is BadWord l f = f is
      below is BadNumber l f = f
      below is cause l f = absurd (omega arith)

      go : OrNot (IsName word) → (reducer : Option ℕ) → reducer_named known.reducers word ≡ reducer → Reading known ReducerName word
      go (inr fails) reducer e = (Err BadWord, lowest_bad_word known ReducerName word fails)
      go (inl is) (Some reducer) e = (Ok (OfNumber reducer), (is, e))
      go (inl is) None e = (Err UnknownName, ((is, e), below is))

  has_monoid_or_not : (version : Version) (monoid : Monoid) → OrNot (HasMonoid version monoid)
  has_monoid_or_not One Digits = inr (λ t. t)
  has_monoid_or_not Two Digits = inl tt
  has_monoid_or_not version monoid = inl tt

  monoid_reading : (word : List ℕ) → Reading known MonoidWord word
  monoid_reading word = go (both_or_not (has_monoid_or_not known.version (monoid_of_word word)) (word_or_not word (monoid_spelling (monoid_of_word word))))
    where
      go : OrNot (MonoidMeans known.version word (monoid_of_word word)) → Reading known MonoidWord word
      go (inl means) = (Ok (OfMonoid (monoid_of_word word)), means)
      go (inr fails) = (
        Err BadWord,
        lowest_bad_word known MonoidWord word
            (λ shape. fails (subst (λ (x : Monoid). MonoidMeans known.version word x) (sym (ap monoid_of_word shape.1.1 ∙ monoid_of_spelling shape.0)) shape.1)),
      )

  sign_or_not : (word : List ℕ) → ((digits : List ℕ) × (word ≡ codes "@" ++ digits)) ⊎ ((digits : List ℕ) → word ≢ codes "@" ++ digits)
  sign_or_not [] = inr (λ digits e. cc)
  sign_or_not (byte ∷ word) = go (number_or_not byte 64)
    where
      go : OrNot (byte ≡ 64) → ((digits : List ℕ) × (byte ∷ word ≡ codes "@" ++ digits)) ⊎ ((digits : List ℕ) → byte ∷ word ≢ codes "@" ++ digits)
      go (inl e) = inl (word, ap (λ b. b ∷ word) e)
      go (inr fails) = inr (λ digits e. fails (same_parts byte 64 word digits e).0)

  mark_reading : (word : List ℕ) → Reading known Mark word
  mark_reading word = go (sign_or_not word)
    where
      by : (digits : List ℕ) → word ≡ codes "@" ++ digits → Reading known (Number 1 max_strand) digits → Reading known Mark word
      by digits e (Ok (OfNumber n), m) = (Ok (OfNumber n), (digits, e, m))
      by digits e (Ok value, m) = absurd m
      by digits e (Err cause, f) = (Err BadNumber, subst (λ (w : List ℕ). IsLowest (WordFault known Mark w) BadNumber) (sym e) (lowest_bad_mark known digits cause f))

      go : ((digits : List ℕ) × (word ≡ codes "@" ++ digits)) ⊎ ((digits : List ℕ) → word ≢ codes "@" ++ digits) → Reading known Mark word
      go (inl (digits, e)) = by digits e (number_reading 1 max_strand digits)
      go (inr none) = (Err BadWord, lowest_bad_word known Mark word (λ shape. none shape.0 shape.1))

-- ---- cells

-- a word is split at its first bracket, or has none
pub split_or_not : (word : List ℕ) → ((name : List ℕ) × (rest : List ℕ) × IsSplit word name rest) ⊎ HasNoBracket word
split_or_not [] = inr tt
split_or_not (byte ∷ word) = go (number_or_not byte 91) (split_or_not word)
  where
    go : OrNot (byte ≡ 91) → ((name : List ℕ) × (rest : List ℕ) × IsSplit word name rest) ⊎ HasNoBracket word →
        ((name : List ℕ) × (rest : List ℕ) × IsSplit (byte ∷ word) name rest) ⊎ HasNoBracket (byte ∷ word)
    go (inl e) later = inl ([], word, record { whole = ap (λ b. b ∷ word) e; front = tt })
    go (inr fails) (inr none) = inr (fails, none)
    go (inr fails) (inl (name, rest, s)) = inl (byte ∷ name, rest, record { whole = ap (λ w. byte ∷ w) s.whole; front = (fails, s.front) })

-- what stands behind it ends with a closing bracket, or does not
pub closed_or_not : (rest : List ℕ) → ((front : List ℕ) × (rest ≡ front ++ 93 ∷ [])) ⊎ ((front : List ℕ) → rest ≢ front ++ 93 ∷ [])
closed_or_not [] = inr none
  where
    none : (front : List ℕ) → [] ≢ front ++ 93 ∷ []
    none [] e = cc
    none (x ∷ front) e = cc
closed_or_not (byte ∷ []) = go (number_or_not byte 93)
  where
    none : byte ≢ 93 → (front : List ℕ) → byte ∷ [] ≢ front ++ 93 ∷ []
    none fails [] e = fails (same_parts byte 93 [] [] e).0
    none fails (x ∷ []) e = cc
    none fails (x ∷ y ∷ front) e = cc

    go : OrNot (byte ≡ 93) → ((front : List ℕ) × (byte ∷ [] ≡ front ++ 93 ∷ [])) ⊎ ((front : List ℕ) → byte ∷ [] ≢ front ++ 93 ∷ [])
    go (inl e) = inl ([], ap (λ b. b ∷ []) e)
    go (inr fails) = inr (none fails)
closed_or_not (byte ∷ other ∷ rest) = go (closed_or_not (other ∷ rest))
  where
    none : ((front : List ℕ) → other ∷ rest ≢ front ++ 93 ∷ []) → (front : List ℕ) → byte ∷ other ∷ rest ≢ front ++ 93 ∷ []
    none fails [] e = cc
    none fails (x ∷ front) e = fails front (same_parts byte x (other ∷ rest) (front ++ 93 ∷ []) e).1

    go : ((front : List ℕ) × (other ∷ rest ≡ front ++ 93 ∷ [])) ⊎ ((front : List ℕ) → other ∷ rest ≢ front ++ 93 ∷ []) →
        ((front : List ℕ) × (byte ∷ other ∷ rest ≡ front ++ 93 ∷ [])) ⊎ ((front : List ℕ) → byte ∷ other ∷ rest ≢ front ++ 93 ∷ [])
    go (inl (front, e)) = inl (byte ∷ front, ap (λ w. byte ∷ w) e)
    go (inr fails) = inr (none fails)

-- a name is that of a memory of this form, or none of this form has it
pub declared_or_not : (mems : List Mem) (name : List ℕ) (array : Bool) → ((mem : Mem) × IsDeclared mems name array mem) ⊎ IsUndeclared mems name array
declared_or_not mems name array = go (memory_named mems name) refl
  where
    by : (mem : Mem) → memory_named mems name ≡ Some mem → (own wanted : Bool) → mem.array ≡ own → array ≡ wanted →
        ((mem : Mem) × IsDeclared mems name array mem) ⊎ IsUndeclared mems name array
    by mem e true true a w = inl (mem, (e, a ∙ sym w))
    by mem e false false a w = inl (mem, (e, a ∙ sym w))
    by mem e true false a w = inr (λ found d. let clash : true ≡ false = sym a ∙ (ap (λ (x : Mem). x.array) (same_some _ mem found e d.0) ∙ (d.1 ∙ w)) in cc)
    by mem e false true a w = inr (λ found d. let clash : false ≡ true = sym a ∙ (ap (λ (x : Mem). x.array) (same_some _ mem found e d.0) ∙ (d.1 ∙ w)) in cc)

    go : (mem : Option Mem) → memory_named mems name ≡ mem → ((mem : Mem) × IsDeclared mems name array mem) ⊎ IsUndeclared mems name array
    go None e = inr (λ found d. let clash : None ≡ Some found = sym e ∙ d.0 in cc)
    go (Some mem) e = by mem e mem.array array refl refl

module _ (known : Known) where
  single : (word : List ℕ) → (answer : Result ℕ Cause) × MatchResult answer (SingleMeans known.mems word) (IsSingleFault known.mems word)
  single word = go (name_or_not word) (declared_or_not known.mems word false)
    where
      go : OrNot (IsName word) → ((mem : Mem) × IsDeclared known.mems word false mem) ⊎ IsUndeclared known.mems word false →
          (answer : Result ℕ Cause) × MatchResult answer (SingleMeans known.mems word) (IsSingleFault known.mems word)
      go (inr fails) mem = (Err BadWord, fails)
      go (inl is) (inl (mem, d)) = (Ok mem.first, (is, mem, d, refl))
      go (inl is) (inr none) = (Err UnknownName, (is, none))

  element : (name index : List ℕ) → (answer : Result ℕ Cause) × MatchResult answer (ElementMeans known.mems name index) (IsElementFault known.mems name index)
  element name index = go (name_or_not name) (number_reading known 0 max_value index)
    where
      found : IsName name → (i : ℕ) → IsNumberIn 0 max_value index i → BeginsWithDigit index → ((mem : Mem) × IsDeclared known.mems name true mem) ⊎ IsUndeclared known.mems name true →
          (answer : Result ℕ Cause) × MatchResult answer (ElementMeans known.mems name index) (IsElementFault known.mems name index)
      found is i m begins (inr none) =
          (Err UnknownName, (is, begins, (λ bad. elim bad [ inl f ↦ f i m | inr f ↦ none f.0 f.1 ]), none))
      found is i m begins (inl (mem, d)) = within (most_or_not mem.cells i)
        where
          within : OrNot (mem.cells ≤ i) → (answer : Result ℕ Cause) × MatchResult answer (ElementMeans known.mems name index) (IsElementFault known.mems name index)
          within (inl past) = (Err BadNumber, (is, begins, inr (mem, d, λ j k. let same : i ≡ j = m.0.2 ∙ sym k.2 in omega arith)))
          within (inr fails) = (Ok (mem.first + i), (is, mem, i, d, m, elim (most_or_not (i + 1) mem.cells) [ inl l ↦ omega (arith, l) | inr l ↦ absurd (fails (not_less i mem.cells l)) ], refl))
            where
              not_less : (a b : ℕ) → (a + 1 ≤ b → ⊥) → b ≤ a
              not_less a b l = omega arith

      go : OrNot (IsName name) → Reading known (Number 0 max_value) index →
          (answer : Result ℕ Cause) × MatchResult answer (ElementMeans known.mems name index) (IsElementFault known.mems name index)
      go (inr fails) index_is = (Err BadWord, λ is begins. fails is)
      go (inl is) (Ok (OfNumber i), m) = found is i m (digits_begin index m.0.0 m.0.1) (declared_or_not known.mems name true)
      go (inl is) (Ok value, m) = absurd m
      go (inl is) (Err cause, f) = (Err cause, number_fault known name index cause is f)

  as_cell : (word : List ℕ) (answer : Result ℕ Cause) → Reads known Cell word answer OfNumber → Reading known Cell word
  as_cell word (Ok cell) m = (Ok (OfNumber cell), m)
  as_cell word (Err cause) f = (Err cause, f)

  cell_reading : (word : List ℕ) → Reading known Cell word
  cell_reading word = go (split_or_not word)
    where
      by : (name rest : List ℕ) → IsSplit word name rest → ((front : List ℕ) × (rest ≡ front ++ 93 ∷ [])) ⊎ ((front : List ℕ) → rest ≢ front ++ 93 ∷ []) → Reading known Cell word
      by name rest s (inl (index, e)) =
          let read = element name index in
          as_cell word read.0 (element_is_cell known word name index (subst (λ (w : List ℕ). IsSplit word name w) e s) read.0 read.1)
      by name rest s (inr none) = (Err BadWord, no_closing known word name rest s none)

      go : ((name : List ℕ) × (rest : List ℕ) × IsSplit word name rest) ⊎ HasNoBracket word → Reading known Cell word
      go (inl (name, rest, s)) = by name rest s (closed_or_not rest)
      go (inr none) = let read = single word in as_cell word read.0 (single_is_cell known word read.0 none read.1)

  -- ---- a word in its place

  pub word_reading : (place : Place) (word : List ℕ) → Reading known place word
  word_reading FreshName word = fresh_reading known word
  word_reading (Number low high) word = number_reading known low high word
  word_reading Cell word = cell_reading word
  word_reading ReducerName word = reducer_reading known word
  word_reading MonoidWord word = monoid_reading known word
  word_reading Mark word = mark_reading known word
