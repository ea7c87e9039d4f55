-- Values of words in their places have the form that the places give them, where the value of a word in its place has.
use Rattle.std.proofs.Common.{◌≡◌, ℕ, ◌∷◌, [], List, refl, sym, ◌∙◌, ap, subst}
use Rattle.std.specs.Prelude.{Some}
use Rattle.text_words.specs.declared.value.Version.{Version}
use Rattle.trace_text.specs.LineGrammar.{Table, Placed, placed, WordsMean, Says}
use Rattle.trace_text.proofs.LineOutcomes.{split_option}

abbrev pub first_or : {X : Type 0} → X → List X → X
first_or other [] = other
first_or other (x ∷ xs) = x

abbrev pub behind_first : {X : Type 0} → List X → List X
behind_first [] = []
behind_first (x ∷ xs) = xs

-- `formed` is a value in the form that the place gives it
module _ {Place Value : Type 0} (nothing : Value) (formed : Place → Value → Value) where
  -- as many values as the places want
  abbrev pub each_formed : List Place → List Value → List Value
  each_formed [] values = []
  each_formed (place ∷ places) values = formed place (first_or nothing values) ∷ each_formed places (behind_first values)

  -- all that may stand at the end, or nothing
  abbrev pub end_formed : List Place → List Value → List Value
  end_formed [] values = []
  end_formed (place ∷ places) [] = []
  end_formed (place ∷ places) (value ∷ values) = formed place value ∷ each_formed places values

  abbrev pub all_formed : (places last : List Place) → List Value → List Value
  all_formed [] last values = end_formed last values
  all_formed (place ∷ places) last values = formed place (first_or nothing values) ∷ all_formed places last (behind_first values)

  each_same : (places : List Place) (values : List Value) → all_formed places [] values ≡ each_formed places values
  each_same [] values = refl
  each_same (place ∷ places) values = ap (λ (vs : List Value). formed place (first_or nothing values) ∷ vs) (each_same places (behind_first values))

  none_formed : (last : List Place) → [] ≡ all_formed [] last []
  none_formed [] = refl
  none_formed (place ∷ last) = refl

  module _ (Means : Place → List ℕ → Value → Type 0) (word_formed : (place : Place) (word : List ℕ) (value : Value) → Means place word value → value ≡ formed place value) where
    no_values : (pairs : List (Placed Place)) (values : List Value) → [] ≡ pairs → WordsMean Means pairs values → values ≡ []
    no_values [] [] e m = refl
    no_values [] (value ∷ values) e m = absurd m
    no_values (pair ∷ pairs) values e m = absurd (cc)

    -- one word more, and values behind it in the form of their places
    next_formed : (place : Place) (word : List ℕ) (more : List (Placed Place)) (form : List Value → List Value)
        → ((rest : List Value) → WordsMean Means more rest → rest ≡ form rest) → (values : List Value) → WordsMean Means ((place, word) ∷ more) values
        → values ≡ formed place (first_or nothing values) ∷ form (behind_first values)
    next_formed place word more form behind [] m = absurd m
    next_formed place word more form behind (value ∷ rest) m =
        ap (λ (v : Value). v ∷ rest) (word_formed place word value m.0) ∙ ap (λ (vs : List Value). formed place value ∷ vs) (behind rest m.1)

    -- what is wanted at the end has the form of what is wanted first
    last_formed : (place : Place) (last : List Place) (word : List ℕ) (more : List (Placed Place)) (values : List Value) → WordsMean Means ((place, word) ∷ more) values
        → values ≡ formed place (first_or nothing values) ∷ all_formed last [] (behind_first values) → values ≡ all_formed [] (place ∷ last) values
    last_formed place last word more [] m e = absurd m
    last_formed place last word more (value ∷ values) m e = e ∙ ap (λ (vs : List Value). formed place value ∷ vs) (each_same last values)

    words_formed : (places last : List Place) (words : List (List ℕ)) (pairs : List (Placed Place)) (values : List Value) →
        placed places last words ≡ Some pairs → WordsMean Means pairs values → values ≡ all_formed places last values
    words_formed [] last [] pairs values e m =
        let none : values ≡ [] = no_values pairs values (let same : [] ≡ pairs = cc in same) m in
        none ∙ (none_formed last ∙ ap (all_formed [] last) (sym none))
    words_formed [] [] (word ∷ words) pairs values e m = absurd (cc)
    words_formed [] (place ∷ last) (word ∷ words) pairs values e m =
        let parts = split_option place word (placed last [] words) pairs e in
        let means = subst (λ (ps : List (Placed Place)). WordsMean Means ps values) parts.2 m in
        last_formed place last word parts.0 values means
        (next_formed place word parts.0 (all_formed last []) (λ rest k. words_formed last [] words parts.0 rest parts.1 k) values means)
    words_formed (place ∷ places) last [] pairs values e m = absurd (cc)
    words_formed (place ∷ places) last (word ∷ words) pairs values e m =
        let parts = split_option place word (placed places last words) pairs e in
        next_formed place word parts.0 (all_formed places last) (λ rest k. words_formed places last words parts.0 rest parts.1 k) values
        (subst (λ (ps : List (Placed Place)). WordsMean Means ps values) parts.2 m)

    -- so have those of a line
    pub line_formed : {Keyword : Type 0} (table : Table Keyword Place) (version : Version) (ws : List (List ℕ)) (keyword : Keyword) (values : List Value)
        → Says Means table version ws keyword values → values ≡ all_formed (table.wanted keyword) (table.optional keyword) values
    line_formed table version ws keyword values says =
        words_formed (table.wanted keyword) (table.optional keyword) says.1.0 says.0 values says.1.3 says.2
