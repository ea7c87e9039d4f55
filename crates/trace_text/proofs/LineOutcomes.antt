-- Words in their places: what means something has no fault, and the lowest cause of more words is the lower one.
-- A, B: the types of values; a, b, r: results, each a value or a cause
use Rattle.std.proofs.Common.{◌≡◌, ℕ, ◌<◌, ◌≤◌, ◌∷◌, [], List, true, false, Bool, cond, arith, refl, sym, ap, subst, inl, inr}
use Rattle.std.specs.Prelude.{Option, Some, None, Result, Ok, Err, option_map, nat_lt}
use Rattle.std.proofs.lemmas.Bool.Decides.{nat_tests}
use Rattle.text_words.specs.declared.fault.Cause.{Cause}
use Rattle.text_words.specs.declared.fault.Cause.TheVariants.{BadWord}
use Rattle.text_words.specs.Causes.{IsLowest, cause_number, both_of}
use Rattle.trace_text.specs.LineGrammar.{Table, Placed, placed, WordsMean, SomeFault, IsPlacedFault, Reads, TakesWord, Fits}

-- What the lemmas ask of a grammar: a word is that of one keyword at most, a word that means something has no fault, and a fault of a word in
-- its place is none of the text or of the first line.
pub record IsClear {Keyword Place Value : Type 0} (table : Table Keyword Place) (Means : Place → List ℕ → Value → Type 0)
    (Fault : Place → List ℕ → Cause → Type 0) : Type 0 where
  pub keyword_of : List ℕ → Keyword
  pub of_spelling : (keyword : Keyword) → keyword_of (table.spelling keyword) ≡ keyword
  pub word_clean : (place : Place) (word : List ℕ) (value : Value) → Means place word value → (cause : Cause) → Fault place word cause → ⊥
  pub below_word : (place : Place) (word : List ℕ) (lower : Cause) → cause_number lower < 3 → Fault place word lower → ⊥

-- ---- words in places

pub split_option : {Place : Type 0} (place : Place) (word : List ℕ) (o : Option (List (Placed Place))) (pairs : List (Placed Place))
    → option_map (λ ps. (place, word) ∷ ps) o ≡ Some pairs → (rest : List (Placed Place)) × (o ≡ Some rest) × (pairs ≡ (place, word) ∷ rest)
split_option place word None pairs e = cc
split_option place word (Some rest) pairs e = (rest, refl, cc)

-- the word in the first place means the first value, and the others mean theirs behind it
pub first_means : {Place Value : Type 0} (Means : Place → List ℕ → Value → Type 0) (place : Place) (places last : List Place) (arguments : List (List ℕ)) (pairs : List (Placed Place))
    (value : Value) (values : List Value) → placed (place ∷ places) last arguments ≡ Some pairs → WordsMean Means pairs (value ∷ values)
    → (word : List ℕ) × (rest : List (List ℕ)) × (more : List (Placed Place)) × Means place word value × WordsMean Means more values × (placed places last rest ≡ Some more)
first_means Means place places last [] pairs value values e m = cc
first_means {Place} Means place places last (word ∷ rest) pairs value values e m =
    let parts = split_option place word (placed places last rest) pairs e in
    let behind = subst (λ (ps : List (Placed Place)). WordsMean Means ps (value ∷ values)) parts.2 m in
    (word, rest, parts.0, behind.0, behind.1, parts.1)

-- and so does the first word of those that may stand at the end
pub last_means : {Place Value : Type 0} (Means : Place → List ℕ → Value → Type 0) (place : Place) (last : List Place) (arguments : List (List ℕ)) (pairs : List (Placed Place))
    (value : Value) (values : List Value) → placed [] (place ∷ last) arguments ≡ Some pairs → WordsMean Means pairs (value ∷ values) → (word : List ℕ) × Means place word value
last_means {Place} Means place last [] pairs value values e m =
    let none : pairs ≡ [] = cc in absurd (subst (λ (ps : List (Placed Place)). WordsMean Means ps (value ∷ values)) none m)
last_means Means place last (word ∷ rest) pairs value values e m =
    let first = first_means Means place last [] (word ∷ rest) pairs value values e m in (first.0, first.3)

-- a fault that no word has
pub nowhere : {Place : Type 0} (Fault : Place → List ℕ → Cause → Type 0) (pairs : List (Placed Place)) (cause : Cause)
    → ((place : Place) (word : List ℕ) → Fault place word cause → ⊥) → SomeFault Fault pairs cause → ⊥
nowhere Fault [] cause h f = f
nowhere Fault (pair ∷ pairs) cause h (inl f) = h pair.0 pair.1 f
nowhere Fault (pair ∷ pairs) cause h (inr f) = nowhere Fault pairs cause h f

module _ {Keyword Place Value : Type 0} {table : Table Keyword Place} {Means : Place → List ℕ → Value → Type 0} {Fault : Place → List ℕ → Cause → Type 0}
    (clear : IsClear table Means Fault) where
  pub words_clean : (pairs : List (Placed Place)) (values : List Value) → WordsMean Means pairs values → (cause : Cause) → SomeFault Fault pairs cause → ⊥
  words_clean [] [] m cause f = f
  words_clean [] (value ∷ values) m cause f = m
  words_clean (pair ∷ pairs) [] m cause f = m
  words_clean (pair ∷ pairs) (value ∷ values) m cause (inl f) = clear.word_clean pair.0 pair.1 value m.0 cause f
  words_clean (pair ∷ pairs) (value ∷ values) m cause (inr f) = words_clean pairs values m.1 cause f

  -- ---- a word and the rest

  module _ (place : Place) (word : List ℕ) where
    after_clean : (rest : Option (List (Placed Place))) (value : Value) (cause : Cause) → Means place word value → IsPlacedFault Fault rest cause
        → IsPlacedFault Fault (option_map (λ pairs. (place, word) ∷ pairs) rest) cause
    after_clean None value cause m f = f
    after_clean (Some pairs) value cause m f =
        (inr f.0, λ lower l g. elim g [ inl w ↦ clear.word_clean place word value m lower w | inr n ↦ f.1 lower l n ])

    before_clean : (pairs : List (Placed Place)) (values : List Value) (cause : Cause) → IsLowest (Fault place word) cause → WordsMean Means pairs values
        → IsLowest (SomeFault Fault ((place, word) ∷ pairs)) cause
    before_clean pairs values cause f m =
        (inl f.0, λ lower l g. elim g [ inl w ↦ f.1 lower l w | inr n ↦ words_clean pairs values m lower n ])

    first_lower : (rest : Option (List (Placed Place))) (first second : Cause) → cause_number first < cause_number second
        → IsLowest (Fault place word) first → IsPlacedFault Fault rest second
        → IsPlacedFault Fault (option_map (λ pairs. (place, word) ∷ pairs) rest) first
    first_lower None first second l f g =
        absurd (clear.below_word place word first (let three : cause_number second ≡ 3 = ap cause_number g in omega arith) f.0)
    first_lower (Some pairs) first second l f g =
        (inl f.0, λ lower k h. elim h [ inl w ↦ f.1 lower k w | inr n ↦ g.1 lower (omega arith) n ])

    second_lower : (rest : Option (List (Placed Place))) (first second : Cause) → cause_number second ≤ cause_number first
        → IsLowest (Fault place word) first → IsPlacedFault Fault rest second
        → IsPlacedFault Fault (option_map (λ pairs. (place, word) ∷ pairs) rest) second
    second_lower None first second l f g = g
    second_lower (Some pairs) first second l f g =
        (inr g.0, λ lower k h. elim h [ inl w ↦ f.1 lower (omega arith) w | inr n ↦ g.1 lower k n ])

    module _ (places last : List Place) (words : List (List ℕ)) {A B : Type 0} (value : A → Value) (values : B → List Value) where
      lower_fits : (t : Bool) (first second : Cause) → (t ≡ true → cause_number first < cause_number second) → (t ≡ false → cause_number second ≤ cause_number first)
          → IsLowest (Fault place word) first → IsPlacedFault Fault (placed places last words) second
          → Fits Means Fault {A = A × B} (place ∷ places) last (word ∷ words) (cond t (Err first) (Err second)) (λ r. value r.0 ∷ values r.1)
      lower_fits true first second h k f g = first_lower (placed places last words) first second (h refl) f g
      lower_fits false first second h k f g = second_lower (placed places last words) first second (k refl) f g

      takes_some : (a : Result A Cause) (b : Result B Cause) → Reads Means Fault place word a value → Fits Means Fault places last words b values
          → Fits Means Fault (place ∷ places) last (word ∷ words) (both_of a b) (λ r. value r.0 ∷ values r.1)
      takes_some (Ok x) (Ok y) m f = ((place, word) ∷ f.0, ap (option_map (λ pairs. (place, word) ∷ pairs)) f.1, (m, f.2))
      takes_some (Ok x) (Err second) m f = after_clean (placed places last words) (value x) second m f
      takes_some (Err first) (Ok y) m f = rw f.1 (before_clean f.0 (values y) first m f.2)
      takes_some (Err first) (Err second) m f =
          lower_fits (nat_lt (cause_number first) (cause_number second)) first second (λ e. grind (arith, nat_tests)) (λ e. grind (arith, nat_tests)) m f

  -- a word that is taken already, and the rest
  pub reads : (place : Place) (places last : List Place) (word : List ℕ) (words : List (List ℕ)) {A B : Type 0} (a : Result A Cause) (b : Result B Cause)
      (value : A → Value) (values : B → List Value) → Reads Means Fault place word a value → Fits Means Fault places last words b values
      → Fits Means Fault (place ∷ places) last (word ∷ words) (both_of a b) (λ r. value r.0 ∷ values r.1)
  reads place places last word words a b value values m f = takes_some place word places last words value values a b m f

  -- ---- no word is left

  no_words : (places last : List Place) (cause : Cause) → IsPlacedFault Fault (placed places last []) cause → cause ≡ BadWord
  no_words [] last cause f = absurd f.0
  no_words (place ∷ places) last cause f = f

  takes_none : (place : Place) (places last : List Place) {A B : Type 0} (value : A → Value) (values : B → List Value) (b : Result B Cause)
      → Fits Means Fault places last [] b values → Fits Means Fault {A = A × B} (place ∷ places) last [] (both_of (Err BadWord) b) (λ r. value r.0 ∷ values r.1)
  takes_none place places last value values (Ok y) f = refl
  takes_none place places last value values (Err second) f = let e : second ≡ BadWord = no_words places last second f in rw e refl

  -- a word in its place, and the rest
  pub takes : (place : Place) (places last : List Place) (old mid : List (List ℕ)) {A B : Type 0} (a : Result A Cause) (b : Result B Cause)
      (value : A → Value) (values : B → List Value) → TakesWord Means Fault place old mid a value → Fits Means Fault places last mid b values
      → Fits Means Fault (place ∷ places) last old (both_of a b) (λ r. value r.0 ∷ values r.1)
  takes place places last [] mid {A} {B} a b value values t f =
      subst (λ (r : Result A Cause). Fits Means Fault (place ∷ places) last [] (both_of r b) (λ r. value r.0 ∷ values r.1)) (sym t.1)
      (takes_none place places last value values b (subst (λ (ws : List (List ℕ)). Fits Means Fault places last ws b values) t.0 f))
  takes place places last (word ∷ words) mid a b value values t f =
      takes_some place word places last words value values a b t.1 (subst (λ (ws : List (List ℕ)). Fits Means Fault places last ws b values) t.0 f)
