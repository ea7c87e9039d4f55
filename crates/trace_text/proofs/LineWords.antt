-- The plain words of a line mean what the line means, where the plain word of each value does in its place.
use Rattle.std.proofs.Common.{◌≡◌, ℕ, ◌∷◌, [], List, refl, ap, subst}
use Rattle.std.specs.Prelude.{Some, option_map}
use Rattle.std.specs.List.{AllByRecursion}
use Rattle.text_words.specs.declared.value.Version.{Version}
use Rattle.trace_text.specs.LineGrammar.{Table, Placed, placed, WordsMean, Says, plain_words}
use Rattle.trace_text.proofs.LineOutcomes.{split_option}

-- in a place that fits, and of a value that leads there, `plain` is a good word for the value
module _ {Place Value : Type 0} (Means : Place → List ℕ → Value → Type 0) (plain : Place → Value → List ℕ) (Good : List ℕ → Type 0) (Fit : Place → Type 0) (Leads : Value → Type 0)
    (word_plain : (place : Place) (word : List ℕ) (value : Value) → Fit place → Leads value → Means place word value → Means place (plain place value) value × Good (plain place value)) where
  -- ---- words in their places

  abbrev ArePrinted : (places last : List Place) → List Value → Type 0
  ArePrinted places last values =
      (more : List (Placed Place)) × (placed places last (plain_words plain places last values) ≡ Some more) × WordsMean Means more values
      × AllByRecursion Good (plain_words plain places last values)

  none_printed : (last : List Place) (values : List Value) → WordsMean Means [] values → ArePrinted [] last values
  none_printed last [] m = ([], refl, tt, tt)
  none_printed last (value ∷ values) m = absurd m

  next_printed : (place : Place) (places last : List Place) (word : List ℕ) (others : List (Placed Place)) (values : List Value) → Fit place → AllByRecursion Leads values
      → ((vs : List Value) → AllByRecursion Leads vs → WordsMean Means others vs → ArePrinted places last vs) → WordsMean Means ((place, word) ∷ others) values
      → ArePrinted (place ∷ places) last values
  next_printed place places last word others [] s l f m = absurd m
  next_printed place places last word others (value ∷ values) s l f m =
      let p = word_plain place word value s l.0 m.0 in
      let behind = f values l.1 m.1 in
      ((place, plain place value) ∷ behind.0, ap (option_map (λ ps. (place, plain place value) ∷ ps)) behind.1, (p.0, behind.2), (p.1, behind.3))

  -- what is wanted at the end is printed as what is wanted first
  last_printed : (place : Place) (last : List Place) (word : List ℕ) (others : List (Placed Place)) (values : List Value) → WordsMean Means ((place, word) ∷ others) values
      → ArePrinted (place ∷ last) [] values → ArePrinted [] (place ∷ last) values
  last_printed place last word others [] m p = absurd m
  last_printed place last word others (value ∷ values) m p = p

  all_printed : (places last : List Place) (arguments : List (List ℕ)) (pairs : List (Placed Place)) (values : List Value) → AllByRecursion Fit places → AllByRecursion Fit last
      → AllByRecursion Leads values → placed places last arguments ≡ Some pairs → WordsMean Means pairs values → ArePrinted places last values
  all_printed [] last [] pairs values s t l e m =
      none_printed last values (subst (λ (ps : List (Placed Place)). WordsMean Means ps values) (let same : pairs ≡ [] = cc in same) m)
  all_printed [] [] (word ∷ arguments) pairs values s t l e m = cc
  all_printed [] (place ∷ last) (word ∷ arguments) pairs values s t l e m =
      let parts = split_option place word (placed last [] arguments) pairs e in
      let means = subst (λ (ps : List (Placed Place)). WordsMean Means ps values) parts.2 m in
      last_printed place last word parts.0 values means
      (next_printed place last [] word parts.0 values t.0 l (λ vs k n. all_printed last [] arguments parts.0 vs t.1 tt k parts.1 n) means)
  all_printed (place ∷ places) last [] pairs values s t l e m = cc
  all_printed (place ∷ places) last (word ∷ arguments) pairs values s t l e m =
      let parts = split_option place word (placed places last arguments) pairs e in
      next_printed place places last word parts.0 values s.0 l (λ vs k n. all_printed places last arguments parts.0 vs s.1 t k parts.1 n)
      (subst (λ (ps : List (Placed Place)). WordsMean Means ps values) parts.2 m)

  -- ---- lines

  module _ {Keyword : Type 0} (table : Table Keyword Place) (fit_wanted : (keyword : Keyword) → AllByRecursion Fit (table.wanted keyword))
      (fit_optional : (keyword : Keyword) → AllByRecursion Fit (table.optional keyword)) (spelling_good : (keyword : Keyword) → Good (table.spelling keyword)) where
    abbrev plain_line : Keyword → List Value → List (List ℕ)
    plain_line keyword values = table.spelling keyword ∷ plain_words plain (table.wanted keyword) (table.optional keyword) values

    -- what words say, their plain words say
    pub says_plain : (version : Version) (ws : List (List ℕ)) (keyword : Keyword) (values : List Value) → AllByRecursion Leads values → Says Means table version ws keyword values
        → Says Means table version (plain_line keyword values) keyword values × AllByRecursion Good (plain_line keyword values)
    says_plain version ws keyword values l says =
        let p = all_printed (table.wanted keyword) (table.optional keyword) says.1.0 says.0 values (fit_wanted keyword) (fit_optional keyword) l says.1.3 says.2 in
        let arguments = plain_words plain (table.wanted keyword) (table.optional keyword) values in
        ((p.0, (arguments, refl, says.1.2, p.1), p.2), (spelling_good keyword, p.3))
