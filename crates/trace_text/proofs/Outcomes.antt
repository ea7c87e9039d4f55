-- Words in their places: what means something has no fault, and the lowest cause of more words is the lower one.
-- n: a number; A, B: the types of values; a, b: results, each a value or a cause
use Rattle.std.proofs.Common.{◌≡◌, ℕ, ◌<◌, ◌∷◌, ◌++◌, [], List, arith, refl, sym, subst, inl, inr}
use Rattle.std.specs.Prelude.{Option, Some, None, Result, Ok, Err, codes}
use Rattle.std.specs.Option.{option_to_list}
use Rattle.text_words.specs.declared.fault.Cause.{Cause}
use Rattle.text_words.specs.declared.fault.Cause.TheVariants.{NotText, BadHeader, BadWord, BadNumber, UnknownName, TwiceNamed}
use Rattle.model_reducers.specs.declared.monoid.Monoid.{Monoid}
use Rattle.text_words.specs.Text.{IsName, IsNumberIn, BeginsWithDigit}
use Rattle.text_words.specs.Limits.{max_strand}
use Rattle.text_words.specs.Values.{Known}
use Rattle.text_words.specs.Names.{IsFresh, MonoidMeans, reducer_named}
use Rattle.trace_text.specs.LineGrammar.{SomeFault}
use Rattle.trace_text.proofs.LineOutcomes.{IsClear, takes as word_and_rest}
use Rattle.trace_text.specs.Lines.{Place, FreshName, Number, Cell, ReducerName, MonoidWord, Mark, Value, OfName, OfNumber, OfMonoid, WordMeans, table, if_there}
use Rattle.text_words.specs.Causes.{IsLowest, cause_number, both_of}
use Rattle.trace_text.specs.Faults.{WordFault}
use Rattle.trace_text.specs.Outcome.{TakesWord, Fits}
use Rattle.trace_text.proofs.Keywords.{keyword_of_word, keyword_of_spelling}
use Rattle.trace_text.proofs.CellWords.{below_word, cell_no_fault, digits_begin}

module _ (known : Known) where
  -- ---- a word that means something has no fault

  number_no_fault : (low high : ℕ) (word : List ℕ) (n : ℕ) → IsNumberIn low high word n → (cause : Cause) → WordFault known (Number low high) word cause → ⊥
  number_no_fault low high word n m BadWord f = f (digits_begin word m.0.0 m.0.1)
  number_no_fault low high word n m BadNumber f = f n m
  number_no_fault low high word n m cause f = f

  fresh_no_fault : (word : List ℕ) → IsName word → IsFresh known word → (cause : Cause) → WordFault known FreshName word cause → ⊥
  fresh_no_fault word n e BadWord f = f n
  fresh_no_fault word n e TwiceNamed f = f e
  fresh_no_fault word n e cause f = f

  reducer_no_fault : (word : List ℕ) (reducer : ℕ) → IsName word → reducer_named known.reducers word ≡ Some reducer → (cause : Cause) → WordFault known ReducerName word cause → ⊥
  reducer_no_fault word reducer n e BadWord f = f n
  reducer_no_fault word reducer n e UnknownName f = let none : reducer_named known.reducers word ≡ None = f.1 in cc
  reducer_no_fault word reducer n e cause f = f

  monoid_no_fault : (word : List ℕ) (monoid : Monoid) → MonoidMeans known.version word monoid → (cause : Cause) → WordFault known MonoidWord word cause → ⊥
  monoid_no_fault word monoid m BadWord f = f (monoid, m)
  monoid_no_fault word monoid m cause f = f

  mark_no_fault : (digits : List ℕ) (n : ℕ) → IsNumberIn 1 max_strand digits n → (cause : Cause) → WordFault known Mark (codes "@" ++ digits) cause → ⊥
  mark_no_fault digits n m BadWord f = f (digits, refl)
  mark_no_fault digits n m BadNumber f = f digits refl n m
  mark_no_fault digits n m cause f = f

  pub word_clean : (place : Place) (word : List ℕ) (value : Value) → WordMeans known place word value → (cause : Cause) → WordFault known place word cause → ⊥
  word_clean FreshName word (OfName name) m cause f = fresh_no_fault word m.1 m.2 cause f
  word_clean (Number low high) word (OfNumber n) m cause f = number_no_fault low high word n m cause f
  word_clean Cell word (OfNumber cell) m cause f = cell_no_fault known word cell m cause f
  word_clean ReducerName word (OfNumber reducer) m cause f = reducer_no_fault word reducer m.0 m.1 cause f
  word_clean MonoidWord word (OfMonoid monoid) m cause f = monoid_no_fault word monoid m cause f
  word_clean Mark word (OfNumber n) m cause f = mark_no_fault m.0 n m.2 cause (subst (λ (w : List ℕ). WordFault known Mark w cause) m.1 f)
  word_clean place word value m cause f = m

  -- so the grammar is clear
  pub clear : IsClear table (WordMeans known) (WordFault known)
  clear = record { keyword_of = keyword_of_word; of_spelling = keyword_of_spelling; word_clean = word_clean; below_word = below_word known }

  -- ---- a word and the rest

  one_lowest : (place : Place) (word : List ℕ) (cause : Cause) → IsLowest (WordFault known place word) cause → IsLowest (SomeFault (WordFault known) ((place, word) ∷ [])) cause
  one_lowest place word cause f = (inl f.0, λ lower l g. elim g [ inl w ↦ f.1 lower l w | inr n ↦ n ])

  pub takes : (place : Place) (places : List Place) (last : Option Place) (old mid : List (List ℕ)) {A B : Type 0} (a : Result A Cause) (b : Result B Cause)
      (value : A → Value) (values : B → List Value) → TakesWord known place old mid a value → Fits known places last mid b values
      → Fits known (place ∷ places) last old (both_of a b) (λ r. value r.0 ∷ values r.1)
  takes place places last old mid a b value values t f = word_and_rest clear place places (option_to_list last) old mid a b value values t f

  -- ---- the optional word

  pub left_ok : (place : Place) (word : List ℕ) (n : ℕ) → WordMeans known place word (OfNumber n)
      → Fits {A = Option ℕ} known [] (Some place) (word ∷ []) (Ok (Some n)) if_there
  left_ok place word n m = ((place, word) ∷ [], refl, (m, tt))

  pub left_err : (place : Place) (word : List ℕ) (cause : Cause) → IsLowest (WordFault known place word) cause
      → Fits {A = Option ℕ} known [] (Some place) (word ∷ []) (Err cause) if_there
  left_err place word cause f = one_lowest place word cause f

  -- ---- numbers and marks

  pub lowest_bad_number : (low high : ℕ) (word : List ℕ) → BeginsWithDigit word → ((n : ℕ) → IsNumberIn low high word n → ⊥)
      → IsLowest (WordFault known (Number low high) word) BadNumber
  lowest_bad_number low high word begins none = (none, below)
    where
      below : (lower : Cause) → cause_number lower < 4 → WordFault known (Number low high) word lower → ⊥
      below NotText l f = f
      below BadHeader l f = f
      below BadWord l f = f begins
      below cause l f = absurd (omega arith)

  -- what stands behind the mark's sign is no number
  pub lowest_bad_mark : (digits : List ℕ) (cause : Cause) → IsLowest (WordFault known (Number 1 max_strand) digits) cause
      → IsLowest (WordFault known Mark (codes "@" ++ digits)) BadNumber
  lowest_bad_mark digits cause f = (λ rest e n m. none cause f.0 n (let same : digits ≡ rest = cc in subst (λ (w : List ℕ). IsNumberIn 1 max_strand w n) (sym same) m), below)
    where
      none : (why : Cause) → WordFault known (Number 1 max_strand) digits why → (n : ℕ) → IsNumberIn 1 max_strand digits n → ⊥
      none why g n m = number_no_fault 1 max_strand digits n m why g

      below : (lower : Cause) → cause_number lower < 4 → WordFault known Mark (codes "@" ++ digits) lower → ⊥
      below NotText l g = g
      below BadHeader l g = g
      below BadWord l g = g (digits, refl)
      below why l g = absurd (omega arith)
