-- The grammar of a line: a keyword, and words in their places behind it. A kind of text has its own keywords and places, and says what a
-- word means in its place, and what is wrong with one that means nothing. How these make up a line stands here, for each kind of text.
use Rattle.std.specs.Prelude.{◌≡◌, ℕ, ◌<◌, ◌⊎◌, Option, Some, None, Result, Err, List, [], ◌∷◌, length}
use Rattle.std.specs.Prelude.{option_map, MatchOption, MatchResult}
use Rattle.text_words.specs.declared.fault.Cause.{Cause}
use Rattle.text_words.specs.declared.fault.Cause.TheVariants.{BadWord}
use Rattle.text_words.specs.declared.value.Version.{Version}
use Rattle.text_words.specs.Causes.{IsLowest}

-- ---- words in places

-- The keywords of a kind of text: how each is written, which versions have it, what a line wants behind it, and what may stand at its end,
-- all of it or nothing.
pub record Table (Keyword Place : Type 0) : Type 1 where
  pub spelling : Keyword → List ℕ
  pub HasKeyword : Version → Keyword → Type 0
  pub wanted : Keyword → List Place
  pub optional : Keyword → List Place

-- A word in its place.
abbrev pub Placed : Type 0 → Type 0
Placed Place = Place × List ℕ

-- Each word in its place, where there are as many as wanted, or the optional ones too.
abbrev pub placed : {Place : Type 0} → (places last : List Place) → List (List ℕ) → Option (List (Placed Place))
placed [] last [] = Some []
placed [] [] (word ∷ words) = None
placed [] (place ∷ last) (word ∷ words) = option_map (λ pairs. (place, word) ∷ pairs) (placed last [] words)
placed (place ∷ places) last [] = None
placed (place ∷ places) last (word ∷ words) = option_map (λ pairs. (place, word) ∷ pairs) (placed places last words)

-- The words are a keyword of the version and others in the places that it wants.
abbrev pub IsArranged : {Keyword Place : Type 0} → Table Keyword Place → Version → List (List ℕ) → Keyword → List (Placed Place) → Type 0
IsArranged table version ws keyword pairs =
    (arguments : List (List ℕ)) × (ws ≡ table.spelling keyword ∷ arguments) × table.HasKeyword version keyword
    × (placed (table.wanted keyword) (table.optional keyword) arguments ≡ Some pairs)

-- ---- what words mean, where `Means` says it of a word in its place

module _ {Place Value : Type 0} (Means : Place → List ℕ → Value → Type 0) where
  -- Each word means its value.
  abbrev pub WordsMean : List (Placed Place) → List Value → Type 0
  WordsMean [] [] = Unit {0}
  WordsMean (pair ∷ pairs) (value ∷ values) = Means pair.0 pair.1 value × WordsMean pairs values
  WordsMean pairs values = ⊥

  -- The words are this keyword and words that mean these values.
  abbrev pub Says : {Keyword : Type 0} → Table Keyword Place → Version → List (List ℕ) → Keyword → List Value → Type 0
  Says table version ws keyword values =
      (pairs : List (Placed Place)) × IsArranged table version ws keyword pairs × WordsMean pairs values

-- ---- what is wrong with words, where `Fault` says it of a word in its place

module _ {Place : Type 0} (Fault : Place → List ℕ → Cause → Type 0) where
  -- Some word has this fault.
  abbrev pub SomeFault : List (Placed Place) → Cause → Type 0
  SomeFault [] cause = ⊥
  SomeFault (pair ∷ pairs) cause = Fault pair.0 pair.1 cause ⊎ SomeFault pairs cause

  -- What is wrong with the words of a line. They are of another shape where no keyword arranges them, or where in each arrangement some
  -- word is.
  abbrev pub WordsFault : {Keyword : Type 0} → Table Keyword Place → Version → List (List ℕ) → Cause → Type 0
  WordsFault {Keyword} table version ws BadWord =
      (0 < length ws)
      × ((keyword : Keyword) (pairs : List (Placed Place)) → IsArranged table version ws keyword pairs → SomeFault pairs BadWord)
  WordsFault {Keyword} table version ws cause =
      (keyword : Keyword) × (pairs : List (Placed Place)) × IsArranged table version ws keyword pairs × SomeFault pairs cause

  -- The lowest cause of words in their places. Where there are too few or too many, they are of another shape.
  abbrev pub IsPlacedFault : Option (List (Placed Place)) → Cause → Type 0
  IsPlacedFault pairs cause = MatchOption pairs (cause ≡ BadWord) (λ some. IsLowest (SomeFault some) cause)

-- ---- what is read of words: values, or the lowest cause

module _ {Place Value : Type 0} (Means : Place → List ℕ → Value → Type 0) (Fault : Place → List ℕ → Cause → Type 0) {A : Type 0} where
  -- The answer is what the word means in its place, or the lowest cause why it means nothing.
  abbrev pub Reads : Place → List ℕ → Result A Cause → (A → Value) → Type 0
  Reads place word answer value =
      MatchResult answer (λ x. Means place word (value x)) (λ cause. IsLowest (Fault place word) cause)

  -- The first word is taken, and the answer is what it means in its place; or there is none.
  abbrev pub TakesWord : Place → List (List ℕ) → List (List ℕ) → Result A Cause → (A → Value) → Type 0
  TakesWord place [] after answer value = (after ≡ []) × (answer ≡ Err BadWord)
  TakesWord place (word ∷ words) after answer value = (after ≡ words) × Reads place word answer value

  -- The words fit the places, and the answer is what they mean; or it is the lowest cause.
  abbrev pub Fits : (places last : List Place) → List (List ℕ) → Result A Cause → (A → List Value) → Type 0
  Fits places last words answer values =
      MatchResult answer
      (λ x. (pairs : List (Placed Place)) × (placed places last words ≡ Some pairs) × WordsMean Means pairs (values x))
      (λ cause. IsPlacedFault Fault (placed places last words) cause)

-- ---- the words for values, where `plain` says it of a value in its place

-- The words for values in the places of a line.
abbrev pub plain_words : {Place Value : Type 0} → (Place → Value → List ℕ) → (places last : List Place) → List Value → List (List ℕ)
plain_words plain places last [] = []
plain_words plain [] [] (value ∷ values) = []
plain_words plain [] (place ∷ last) (value ∷ values) = plain place value ∷ plain_words plain last [] values
plain_words plain (place ∷ places) last (value ∷ values) = plain place value ∷ plain_words plain places last values
