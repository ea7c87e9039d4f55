-- Words in their places mean something or have a lowest cause why not, where each word in its place does, and so does a line.
use Rattle.std.proofs.Common.{◌≡◌, ◌⊎◌, inl, inr, ℕ, List, [], ◌∷◌, refl, sym, ◌∙◌, ap, subst}
use Rattle.std.specs.Prelude.{Result, Ok, Err}
use Rattle.text_words.specs.declared.fault.Cause.{Cause}
use Rattle.text_words.specs.declared.fault.Cause.TheVariants.{BadWord}
use Rattle.text_words.specs.declared.value.Version.{Version}
use Rattle.text_words.specs.Causes.{IsLowest}
use Rattle.text_words.proofs.Decided.{OrNot, word_or_not}
use Rattle.trace_text.specs.LineGrammar.{Table, placed, Says, WordsFault, Reads, Fits}
use Rattle.trace_text.proofs.LineOutcomes.{IsClear, reads}
use Rattle.trace_text.proofs.LineFaults.{lowest_by, lowest_unknown}

-- what is read of a word in its place: its value, or the lowest cause
abbrev pub Reading : {Place Value : Type 0} → (Place → List ℕ → Value → Type 0) → (Place → List ℕ → Cause → Type 0) → Place → List ℕ → Type 0
Reading {Place} {Value} Means Fault place word = (answer : Result Value Cause) × Reads Means Fault place word answer (λ value. value)

module _ {Keyword Place Value : Type 0} {table : Table Keyword Place} {Means : Place → List ℕ → Value → Type 0} {Fault : Place → List ℕ → Cause → Type 0}
    (clear : IsClear table Means Fault) (word_reading : (place : Place) (word : List ℕ) → Reading Means Fault place word) where
  -- what is read of words in their places
  abbrev WordsReading : (places last : List Place) → List (List ℕ) → Type 0
  WordsReading places last words = (read : Result (List Value) Cause) × Fits Means Fault places last words read (λ v. v)

  as_values : (places last : List Place) (words : List (List ℕ)) {A : Type 0} (answer : Result A Cause) (values : A → List Value) →
      Fits Means Fault places last words answer values → WordsReading places last words
  as_values places last words (Ok x) values f = (Ok (values x), f)
  as_values places last words (Err cause) values f = (Err cause, f)

  words_reading : (places last : List Place) (words : List (List ℕ)) → WordsReading places last words
  words_reading [] last [] = (Ok [], ([], refl, tt))
  words_reading [] [] (word ∷ words) = (Err BadWord, refl)
  words_reading [] (place ∷ last) (word ∷ words) =
      let first = word_reading place word in
      let rest = words_reading last [] words in
      as_values [] (place ∷ last) (word ∷ words) _ (λ r. r.0 ∷ r.1)
      (reads clear place last [] word words first.0 rest.0 (λ value. value) (λ values. values) first.1 rest.1)
  words_reading (place ∷ places) last [] = (Err BadWord, refl)
  words_reading (place ∷ places) last (word ∷ words) =
      let first = word_reading place word in
      let rest = words_reading places last words in
      as_values (place ∷ places) last (word ∷ words) _ (λ r. r.0 ∷ r.1)
      (reads clear place places last word words first.0 rest.0 (λ value. value) (λ values. values) first.1 rest.1)

  module _ (version : Version) (keyword_known_or_not : (keyword : Keyword) → OrNot (table.HasKeyword version keyword)) where
    -- the word is that of a keyword of the version, or of none
    abbrev KeywordOrNot : List ℕ → Type 0
    KeywordOrNot word =
        ((keyword : Keyword) × table.HasKeyword version keyword × (word ≡ table.spelling keyword))
        ⊎ ((keyword : Keyword) → table.HasKeyword version keyword → word ≡ table.spelling keyword → ⊥)

    keyword_or_not : (word : List ℕ) → KeywordOrNot word
    keyword_or_not word = go (keyword_known_or_not (clear.keyword_of word)) (word_or_not word (table.spelling (clear.keyword_of word)))
      where
        same : (keyword : Keyword) → word ≡ table.spelling keyword → clear.keyword_of word ≡ keyword
        same keyword e = ap clear.keyword_of e ∙ clear.of_spelling keyword

        go : OrNot (table.HasKeyword version (clear.keyword_of word)) → OrNot (word ≡ table.spelling (clear.keyword_of word)) → KeywordOrNot word
        go (inl has) (inl e) = inl (clear.keyword_of word, has, e)
        go (inr fails) e = inr (λ keyword has is. fails (subst (λ (k : Keyword). table.HasKeyword version k) (sym (same keyword is)) has))
        go (inl has) (inr fails) = inr (λ keyword has is. fails (subst (λ (k : Keyword). word ≡ table.spelling k) (sym (same keyword is)) is))

    -- the words say something or have a lowest cause
    abbrev pub Told : List (List ℕ) → Type 0
    Told ws =
        ((keyword : Keyword) × (values : List Value) × Says Means table version ws keyword values)
        ⊎ ((cause : Cause) × IsLowest (WordsFault Fault table version ws) cause)

    pub line_told : (word : List ℕ) (arguments : List (List ℕ)) → Told (word ∷ arguments)
    line_told word arguments = go (keyword_or_not word)
      where
        read : (keyword : Keyword) → table.HasKeyword version keyword → word ≡ table.spelling keyword →
            WordsReading (table.wanted keyword) (table.optional keyword) arguments → Told (word ∷ arguments)
        read keyword has e (Ok values, (pairs, fits, m)) = inl (keyword, values, (pairs, (arguments, ap (λ w. w ∷ arguments) e, has, fits), m))
        read keyword has e (Err cause, f) =
            inr (
              cause,
              lowest_by clear version (word ∷ arguments) arguments keyword (placed (table.wanted keyword) (table.optional keyword) arguments) cause
                  (ap (λ w. w ∷ arguments) e) has refl f,
            )

        go : KeywordOrNot word → Told (word ∷ arguments)
        go (inl (keyword, has, e)) = read keyword has e (words_reading (table.wanted keyword) (table.optional keyword) arguments)
        go (inr none) = inr (BadWord, lowest_unknown clear version word arguments (λ other. (λ e. absurd (cc), λ is. absurd (none other is.0 is.1))))
