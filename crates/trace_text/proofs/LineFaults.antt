-- Words stand in one arrangement at most, and what is wrong with them is what is wrong with one of them there.
use Rattle.std.proofs.Common.{◌≡◌, ℕ, ◌<◌, ◌∷◌, [], List, length, arith, refl, sym, subst, ap, ◌∙◌, ◌⊎◌, inl, inr}
use Rattle.std.specs.Prelude.{Option, Some, None, Result, Ok, Err, MatchResult, ◌↔◌}
use Rattle.text_words.specs.declared.fault.Cause.{Cause}
use Rattle.text_words.specs.declared.fault.Cause.TheVariants.{NotText, BadHeader, BadWord}
use Rattle.text_words.specs.declared.value.Version.{Version}
use Rattle.text_words.specs.Causes.{IsLowest, cause_number}
use Rattle.trace_text.specs.LineGrammar.{Table, Placed, placed, IsArranged, WordsMean, Says, SomeFault, WordsFault, IsPlacedFault}
use Rattle.trace_text.proofs.LineOutcomes.{IsClear, nowhere, words_clean}

pub same_head : {X : Type 0} (x y : X) (xs ys : List X) → x ∷ xs ≡ y ∷ ys → (x ≡ y) × (xs ≡ ys)
same_head x y xs ys e = (cc, cc)

module _ {Keyword Place Value : Type 0} {table : Table Keyword Place} {Means : Place → List ℕ → Value → Type 0} {Fault : Place → List ℕ → Cause → Type 0}
    (clear : IsClear table Means Fault) where
  -- ---- one arrangement

  same_first : (keyword other : Keyword) (ws xs ys : List (List ℕ)) → ws ≡ table.spelling keyword ∷ xs → ws ≡ table.spelling other ∷ ys → (keyword ≡ other) × (xs ≡ ys)
  same_first keyword other ws xs ys e f =
      let same = same_head (table.spelling keyword) (table.spelling other) xs ys (sym e ∙ f) in
      (sym (clear.of_spelling keyword) ∙ (ap clear.keyword_of same.0 ∙ clear.of_spelling other), same.1)

  abbrev placed_by : Keyword → List (List ℕ) → Option (List (Placed Place))
  placed_by keyword arguments = placed (table.wanted keyword) (table.optional keyword) arguments

  same_placed : (keyword other : Keyword) (xs ys : List (List ℕ)) (ps qs : Option (List (Placed Place))) → keyword ≡ other → xs ≡ ys
      → placed_by keyword xs ≡ ps → placed_by other ys ≡ qs → ps ≡ qs
  same_placed keyword other xs ys ps qs e f g h = sym g ∙ (ap (λ (k : Keyword). placed_by k xs) e ∙ (ap (placed_by other) f ∙ h))

  module _ (version : Version) where
    -- words are arranged in one way at most
    pub arranged_once : (ws : List (List ℕ)) (keyword other : Keyword) (ps qs : List (Placed Place))
        → IsArranged table version ws keyword ps → IsArranged table version ws other qs → (keyword ≡ other) × (ps ≡ qs)
    arranged_once ws keyword other ps qs a b =
        let same = same_first keyword other ws a.0 b.0 a.1 b.1 in
        let some : Some ps ≡ Some qs = same_placed keyword other a.0 b.0 (Some ps) (Some qs) same.0 same.1 a.3 b.3 in
        (same.0, cc)

    -- and say one thing at most, where each word means one
    module _ (word_once : (place : Place) (word : List ℕ) (v w : Value) → Means place word v → Means place word w → v ≡ w) where
      values_once : (pairs : List (Placed Place)) (vs ws : List Value) → WordsMean Means pairs vs → WordsMean Means pairs ws → vs ≡ ws
      values_once [] [] [] m n = refl
      values_once [] [] (w ∷ ws) m n = absurd n
      values_once [] (v ∷ vs) ws m n = absurd m
      values_once (pair ∷ pairs) [] ws m n = absurd m
      values_once (pair ∷ pairs) (v ∷ vs) [] m n = absurd n
      values_once (pair ∷ pairs) (v ∷ vs) (w ∷ ws) m n =
          ap (λ (x : Value). x ∷ vs) (word_once pair.0 pair.1 v w m.0 n.0) ∙ ap (λ (xs : List Value). w ∷ xs) (values_once pairs vs ws m.1 n.1)

      says_once : (ws : List (List ℕ)) (keyword other : Keyword) (values more : List Value) → Says Means table version ws keyword values
          → Says Means table version ws other more → (keyword ≡ other) × (values ≡ more)
      says_once ws keyword other values more m n =
          let same = arranged_once ws keyword other m.0 n.0 m.1 n.1 in
          (same.0, values_once n.0 values more (subst (λ (t : List (Placed Place)). WordsMean Means t values) same.1 m.2) n.2)

    -- ---- faults of words

    words_not_below : (ws : List (List ℕ)) (lower : Cause) → cause_number lower < 3 → WordsFault Fault table version ws lower → ⊥
    words_not_below ws NotText l f = nowhere Fault f.1 NotText (λ place word g. clear.below_word place word NotText l g) f.3
    words_not_below ws BadHeader l f = nowhere Fault f.1 BadHeader (λ place word g. clear.below_word place word BadHeader l g) f.3
    words_not_below ws cause l f = absurd (omega arith)

    module _ (ws : List (List ℕ)) (keyword : Keyword) (pairs : List (Placed Place)) (a : IsArranged table version ws keyword pairs) where
      some_words : 0 < length ws
      some_words = let e : length ws ≡ length (table.spelling keyword ∷ a.0) = ap length a.1 in omega arith

      from_pairs : (cause : Cause) → SomeFault Fault pairs cause → WordsFault Fault table version ws cause
      from_pairs BadWord f =
          (some_words, λ other more b. subst (λ (t : List (Placed Place)). SomeFault Fault t BadWord) (arranged_once ws keyword other pairs more a b).1 f)
      from_pairs cause f = (keyword, pairs, a, f)

      to_pairs : (cause : Cause) → WordsFault Fault table version ws cause → SomeFault Fault pairs cause
      to_pairs BadWord f = f.1 keyword pairs a
      to_pairs cause f = subst (λ (t : List (Placed Place)). SomeFault Fault t cause) (arranged_once ws f.0 keyword f.1 pairs f.2 a).1 f.3

      lowest_of_pairs : (cause : Cause) → IsLowest (SomeFault Fault pairs) cause → IsLowest (WordsFault Fault table version ws) cause
      lowest_of_pairs cause f = (from_pairs cause f.0, λ lower l g. f.1 lower l (to_pairs lower g))

    -- too few or too many words
    lowest_of_count : (ws arguments : List (List ℕ)) (keyword : Keyword) → ws ≡ table.spelling keyword ∷ arguments → placed_by keyword arguments ≡ None
        → IsLowest (WordsFault Fault table version ws) BadWord
    lowest_of_count ws arguments keyword e none = (
      (
        let l : length ws ≡ length (table.spelling keyword ∷ arguments) = ap length e in omega arith,
        λ other more b.
            let same = same_first keyword other ws arguments b.0 e b.1 in
            let clash : None ≡ Some more = same_placed keyword other arguments b.0 None (Some more) same.0 same.1 none b.3 in
            cc,
      ),
      words_not_below ws,
    )

    pub lowest_by : (ws arguments : List (List ℕ)) (keyword : Keyword) (rest : Option (List (Placed Place))) (cause : Cause) → ws ≡ table.spelling keyword ∷ arguments
        → table.HasKeyword version keyword → placed_by keyword arguments ≡ rest → IsPlacedFault Fault rest cause → IsLowest (WordsFault Fault table version ws) cause
    lowest_by ws arguments keyword None cause e has fits f =
        subst (λ (t : Cause). IsLowest (WordsFault Fault table version ws) t) (sym f) (lowest_of_count ws arguments keyword e fits)
    lowest_by ws arguments keyword (Some pairs) cause e has fits f = lowest_of_pairs ws keyword pairs (arguments, e, has, fits) cause f

    -- a line that a keyword begins
    pub line_read : {A : Type 0} (Holds : List (List ℕ) → A → Type 0) (word : List ℕ) (arguments : List (List ℕ)) (keyword : Keyword) (r : Result A Cause)
        → table.HasKeyword version keyword → word ≡ table.spelling keyword
        → MatchResult r (Holds (table.spelling keyword ∷ arguments)) (λ cause. IsPlacedFault Fault (placed_by keyword arguments) cause)
        → MatchResult r (Holds (word ∷ arguments)) (λ cause. IsLowest (WordsFault Fault table version (word ∷ arguments)) cause)
    line_read Holds word arguments keyword (Ok item) has e m = subst (λ (w : List ℕ). Holds (w ∷ arguments) item) (sym e) m
    line_read Holds word arguments keyword (Err cause) has e f =
        lowest_by (word ∷ arguments) arguments keyword (placed_by keyword arguments) cause (ap (λ (w : List ℕ). w ∷ arguments) e) has refl f

    -- a first word that is no keyword
    pub lowest_unknown : (word : List ℕ) (arguments : List (List ℕ))
        → ((other : Keyword) → (None ≡ Some other) ↔ (table.HasKeyword version other × (word ≡ table.spelling other)))
        → IsLowest (WordsFault Fault table version (word ∷ arguments)) BadWord
    lowest_unknown word arguments h = (
      (
        omega arith,
        λ other more b.
            let spelled : word ≡ table.spelling other = (same_head word (table.spelling other) arguments b.0 b.1).0 in
            let some : None ≡ Some other = (h other).1 (b.2, spelled) in
            cc,
      ),
      words_not_below (word ∷ arguments),
    )

    -- ---- words that say something have no fault

    blank_clean : (cause : Cause) → WordsFault Fault table version [] cause → ⊥
    blank_clean BadWord f = absurd (omega (arith, f.0))
    blank_clean cause f = let e : [] ≡ table.spelling f.0 ∷ f.2.0 = f.2.1 in cc

    says_clean : (ws : List (List ℕ)) (keyword : Keyword) (values : List Value) → Says Means table version ws keyword values
        → (cause : Cause) → WordsFault Fault table version ws cause → ⊥
    says_clean ws keyword values says cause f = words_clean clear says.0 values says.2 cause (to_pairs ws keyword says.0 says.1 cause f)

    -- ---- items, where words behind a keyword make one by their values

    module _ {Item : Type 0} (blank : Item) (item_by : Keyword → List Value → Item) (ws : List (List ℕ)) where
      -- the words say the item: there are none, or they are a keyword and words whose values make it
      abbrev pub IsSaid : Item → Type 0
      IsSaid item =
          ((item ≡ blank) × (ws ≡ []))
          ⊎ ((keyword : Keyword) × (values : List Value) × Says Means table version ws keyword values × (item_by keyword values ≡ item))

      no_words_say : (keyword : Keyword) (values : List Value) → ws ≡ [] → Says Means table version ws keyword values → ⊥
      no_words_say keyword values e says = let none : [] ≡ table.spelling keyword ∷ says.1.0 = sym e ∙ says.1.1 in cc

      -- they say one item at most, where a word means one value at most
      pub said_once : ((place : Place) (word : List ℕ) (v w : Value) → Means place word v → Means place word w → v ≡ w) → (i j : Item) → IsSaid i → IsSaid j → i ≡ j
      said_once word_once i j (inl m) (inl n) = m.0 ∙ sym n.0
      said_once word_once i j (inl m) (inr n) = absurd (no_words_say n.0 n.1 m.1 n.2)
      said_once word_once i j (inr m) (inl n) = absurd (no_words_say m.0 m.1 n.1 m.2)
      said_once word_once i j (inr m) (inr n) =
          let same = says_once word_once ws m.0 n.0 m.1 n.1 m.2 n.2 in
          sym m.3 ∙ (ap (λ (k : Keyword). item_by k m.1) same.0 ∙ (ap (item_by n.0) same.1 ∙ n.3))

      -- and have no fault
      pub said_clean : (item : Item) → IsSaid item → (cause : Cause) → WordsFault Fault table version ws cause → ⊥
      said_clean item (inl m) cause f = blank_clean cause (subst (λ (t : List (List ℕ)). WordsFault Fault table version t cause) m.1 f)
      said_clean item (inr m) cause f = says_clean ws m.0 m.1 m.2 cause f
