-- Words that name a cell: a name, or a name with an index in brackets.
use Rattle.std.proofs.Common.{◌≡◌, ◌≢◌, ℕ, ◌<◌, ◌≤◌, ◌∷◌, ◌++◌, [], List, length, true, false, Bool, cond, arith, refl, sym, ◌∙◌, get_or, suc, append_assoc, inl, inr, subst}
use Rattle.std.specs.Prelude.{Option, Some, Result, Ok, Err, MatchResult, IsTrue}
use Rattle.std.specs.List.{All, AllByRecursion, find}
use Rattle.std.specs.Char.{is_ascii_lowercase}
use Rattle.std.specs.Str.{all_ascii_digits}
use Rattle.std.proofs.lemmas.Bool.Decides.{nat_tests}
use Rattle.std.proofs.lemmas.List.{append_cancel_right}
use Rattle.std.proofs.lemmas.List.Elements.{recursion_from_All}
use Rattle.text_words.specs.declared.fault.Cause.{Cause}
use Rattle.text_words.specs.declared.fault.Cause.TheVariants.{NotText, BadHeader, BadWord, BadNumber, UnknownName}
use Rattle.text_words.specs.declared.value.Mem.{Mem}
use Rattle.text_words.specs.Text.{is_name_byte, IsName, BeginsWithDigit}
use Rattle.text_words.specs.Values.{Known}
use Rattle.text_words.specs.Names.{element_word, CellMeans, SingleMeans, ElementMeans}
use Rattle.trace_text.specs.Lines.{Place, Cell, OfNumber}
use Rattle.text_words.specs.Causes.{IsLowest, cause_number}
use Rattle.trace_text.specs.Faults.{HasShape, HasElementShape, IsBadIndex, IsUndeclared, WordFault}
use Rattle.trace_text.specs.Outcome.{Reads}
use Rattle.trace_text.specs.Cells.{IsSingleFault, IsElementFault}

-- what holds of all elements holds of the one that is found
pub found_of_all : {X : Type 0} (P : X → Type 0) (test : X → Bool) (xs : List X) (x : X) → All P xs → find test xs ≡ Some x → P x
found_of_all {X} P test xs x all = found xs (recursion_from_All P xs all)
  where
    at : (b : Bool) (y : X) (ys : List X) → P y → (find test ys ≡ Some x → P x) → cond b (Some y) (find test ys) ≡ Some x → P x
    at true y ys p h e = let same : y ≡ x = cc in subst P same p
    at false y ys p h e = h e

    found : (ys : List X) → AllByRecursion P ys → find test ys ≡ Some x → P x
    found [] h e = cc
    found (y ∷ ys) h e = at (test y) y ys h.0 (found ys h.1) e

pub same_some : {X : Type 0} (o : Option X) (x y : X) → o ≡ Some x → o ≡ Some y → x ≡ y
same_some o x y h k = cc

-- ---- brackets

abbrev pub HasNoBracket : List ℕ → Type 0
HasNoBracket [] = Unit {0}
HasNoBracket (byte ∷ bytes) = (byte ≢ 91) × HasNoBracket bytes

pub no_bracket_by_index : (word : List ℕ) → ((i : ℕ) → i < length word → get_or word i 0 ≢ 91) → HasNoBracket word
no_bracket_by_index [] h = tt
no_bracket_by_index (byte ∷ bytes) h = (h 0 (omega arith), no_bracket_by_index bytes (λ i l. h (suc i) (omega arith)))

lowercase_no_bracket : (byte : ℕ) → IsTrue (is_ascii_lowercase byte) → byte ≢ 91
lowercase_no_bracket byte h e = grind (arith, nat_tests)

name_byte_no_bracket : (byte : ℕ) → IsTrue (is_name_byte byte) → byte ≢ 91
name_byte_no_bracket byte h e = grind (arith, nat_tests)

name_bytes_no_bracket : (bytes : List ℕ) → AllByRecursion (λ c. IsTrue (is_name_byte c)) bytes → HasNoBracket bytes
name_bytes_no_bracket [] h = tt
name_bytes_no_bracket (byte ∷ bytes) h = (name_byte_no_bracket byte h.0, name_bytes_no_bracket bytes h.1)

pub name_no_bracket : (name : List ℕ) → IsName name → HasNoBracket name
name_no_bracket [] h = absurd h
name_no_bracket (byte ∷ bytes) h = (lowercase_no_bracket byte h.0, name_bytes_no_bracket bytes (recursion_from_All _ _ h.1))

bracket_in : (front back : List ℕ) → HasNoBracket (front ++ 91 ∷ back) → ⊥
bracket_in [] back h = h.0 refl
bracket_in (byte ∷ front) back h = bracket_in front back h.1

pub same_split : (a b x y : List ℕ) → HasNoBracket a → HasNoBracket b → a ++ 91 ∷ x ≡ b ++ 91 ∷ y → (a ≡ b) × (x ≡ y)
same_split [] [] x y h k e = (refl, cc)
same_split [] (c ∷ b) x y h k e = absurd (k.0 cc)
same_split (c ∷ a) [] x y h k e = absurd (h.0 cc)
same_split (c ∷ a) (d ∷ b) x y h k e =
    let rest : a ++ 91 ∷ x ≡ b ++ 91 ∷ y = cc in
    let same = same_split a b x y h.1 k.1 rest in
    let same_front : a ≡ b = same.0 in
    (cc, same.1)

pub flat : (name index : List ℕ) → element_word name index ≡ name ++ 91 ∷ (index ++ 93 ∷ [])
flat name index = simp append_assoc

-- ---- what a word without a bracket names

pub no_element : (word name index : List ℕ) → HasNoBracket word → word ≡ element_word name index → ⊥
no_element word name index h e = bracket_in name (index ++ 93 ∷ []) (subst HasNoBracket (e ∙ flat name index) h)

module _ (known : Known) where
  pub below_word : (place : Place) (word : List ℕ) (lower : Cause) → cause_number lower < 3 → WordFault known place word lower → ⊥
  below_word place word NotText l f = f
  below_word place word BadHeader l f = f
  below_word place word cause l f = absurd (omega arith)

  -- the place wants another shape
  pub lowest_bad_word : (place : Place) (word : List ℕ) → (HasShape known.version place word → ⊥) → IsLowest (WordFault known place word) BadWord
  lowest_bad_word place word h = (h, below_word place word)

  unknown_single : (word : List ℕ) (lower : Cause) → IsName word → HasNoBracket word → cause_number lower < 5 → WordFault known Cell word lower → ⊥
  unknown_single word NotText n h l f = f
  unknown_single word BadHeader n h l f = f
  unknown_single word BadWord n h l f = f (inl n)
  unknown_single word BadNumber n h l f = no_element word f.0 f.1 h f.2.0
  unknown_single word cause n h l f = absurd (omega arith)

  single_fault : (word : List ℕ) (cause : Cause) → HasNoBracket word → IsSingleFault known.mems word cause → IsLowest (WordFault known Cell word) cause
  single_fault word BadWord h f =
      lowest_bad_word Cell word (λ shape. elim shape [ inl n ↦ f n | inr e ↦ no_element word e.0 e.1 h e.2.0 ])
  single_fault word UnknownName h f = (inl (f.0, f.1), λ lower l g. unknown_single word lower f.0 h l g)
  single_fault word cause h f = absurd f

  pub single_is_cell : (word : List ℕ) (r : Result ℕ Cause) → HasNoBracket word
      → MatchResult r (SingleMeans known.mems word) (IsSingleFault known.mems word) → Reads known Cell word r OfNumber
  single_is_cell word (Ok cell) h m = inl m
  single_is_cell word (Err cause) h m = single_fault word cause h m

-- ---- what a word with brackets names

-- the word is split at its first bracket
pub record IsSplit (word name rest : List ℕ) : Type 0 where
  pub whole : word ≡ name ++ 91 ∷ rest
  pub front : HasNoBracket name

no_name : (word name rest : List ℕ) → IsSplit word name rest → IsName word → ⊥
no_name word name rest s n = bracket_in name rest (subst HasNoBracket s.whole (name_no_bracket word n))

same_parts : (word name rest other index : List ℕ) → IsSplit word name rest → HasElementShape word other index → (name ≡ other) × (rest ≡ index ++ 93 ∷ [])
same_parts word name rest other index s shape =
    same_split name other rest (index ++ 93 ∷ []) s.front (name_no_bracket other shape.1) (sym s.whole ∙ (shape.0 ∙ flat other index))

pub no_closing : (known : Known) (word name rest : List ℕ) → IsSplit word name rest → ((front : List ℕ) → rest ≢ front ++ 93 ∷ []) → IsLowest (WordFault known Cell word) BadWord
no_closing known word name rest s h =
    lowest_bad_word known Cell word
    (λ shape. elim shape [ inl n ↦ no_name word name rest s n | inr e ↦ h e.1 (same_parts word name rest e.0 e.1 s e.2).1 ])

module _ (known : Known) (word name index : List ℕ) (s : IsSplit word name (index ++ 93 ∷ [])) where
  element_is : word ≡ element_word name index
  element_is = s.whole ∙ sym (flat name index)

  same_element : (other place : List ℕ) → HasElementShape word other place → (other ≡ name) × (place ≡ index)
  same_element other place shape =
      let same = same_parts word name (index ++ 93 ∷ []) other place s shape in
      (sym same.0, sym (append_cancel_right index place (93 ∷ []) same.1))

  no_shape : (IsName name → BeginsWithDigit index → ⊥) → HasShape known.version Cell word → ⊥
  no_shape f (inl n) = no_name word name (index ++ 93 ∷ []) s n
  no_shape f (inr e) =
      let same = same_element e.0 e.1 e.2 in
      f (subst IsName same.0 e.2.1) (subst BeginsWithDigit same.1 e.2.2)

  bad_number_below : (lower : Cause) → IsName name → BeginsWithDigit index → cause_number lower < 4 → WordFault known Cell word lower → ⊥
  bad_number_below NotText n b l f = f
  bad_number_below BadHeader n b l f = f
  bad_number_below BadWord n b l f = f (inr (name, index, (element_is, n, b)))
  bad_number_below cause n b l f = absurd (omega arith)

  unknown_below : (lower : Cause) → IsName name → BeginsWithDigit index → (IsBadIndex known.mems name index → ⊥) → cause_number lower < 5 → WordFault known Cell word lower → ⊥
  unknown_below NotText n b g l f = f
  unknown_below BadHeader n b g l f = f
  unknown_below BadWord n b g l f = f (inr (name, index, (element_is, n, b)))
  unknown_below BadNumber n b g l f =
      let same = same_element f.0 f.1 f.2 in
      g (subst (λ i. IsBadIndex known.mems name i) same.1 (subst (λ m. IsBadIndex known.mems m f.1) same.0 f.3))
  unknown_below cause n b g l f = absurd (omega arith)

  element_fault : (cause : Cause) → IsElementFault known.mems name index cause → IsLowest (WordFault known Cell word) cause
  element_fault BadWord f = lowest_bad_word known Cell word (no_shape f)
  element_fault BadNumber f = ((name, index, (element_is, f.0, f.1), f.2), λ lower l g. bad_number_below lower f.0 f.1 l g)
  element_fault UnknownName f = (inr (name, index, (element_is, f.0, f.1), f.3), λ lower l g. unknown_below lower f.0 f.1 f.2 l g)
  element_fault cause f = absurd f

  pub element_is_cell : (r : Result ℕ Cause) → MatchResult r (ElementMeans known.mems name index) (IsElementFault known.mems name index)
      → Reads known Cell word r OfNumber
  element_is_cell (Ok cell) m = inr (name, index, element_is, m)
  element_is_cell (Err cause) m = element_fault cause m

-- ---- what a word names has no fault

pub digits_begin : (word : List ℕ) → 0 < length word → IsTrue (all_ascii_digits word) → BeginsWithDigit word
digits_begin [] l h = absurd (omega arith)
digits_begin (byte ∷ word) l h = grind (arith, nat_tests)

single_no_fault : (known : Known) (word : List ℕ) (cell : ℕ) (cause : Cause) → SingleMeans known.mems word cell → WordFault known Cell word cause → ⊥
single_no_fault known word cell BadWord m f = f (inl m.0)
single_no_fault known word cell BadNumber m f = no_element word f.0 f.1 (name_no_bracket word m.0) f.2.0
single_no_fault known word cell UnknownName m (inl f) = f.1 m.1 m.2
single_no_fault known word cell UnknownName m (inr f) = no_element word f.0 f.1 (name_no_bracket word m.0) f.2.0
single_no_fault known word cell cause m f = f

module _ (known : Known) (word name index : List ℕ) (cell : ℕ) (e : word ≡ element_word name index) (m : ElementMeans known.mems name index cell) where
  split_of : IsSplit word name (index ++ 93 ∷ [])
  split_of = record { whole = e ∙ flat name index; front = name_no_bracket name m.0 }

  no_bad_index : IsBadIndex known.mems name index → ⊥
  no_bad_index (inl f) = f m.2 m.4
  no_bad_index (inr f) =
      let same : f.0 ≡ m.1 = same_some _ _ _ f.1.0 m.3.0 in
      let past : f.0.cells ≤ m.2 = f.2 m.2 m.4.0 in
      let past_own : m.1.cells ≤ m.2 = subst (λ (mem : Mem). mem.cells ≤ m.2) same past in
      omega (arith, m.5)

  element_no_fault : (cause : Cause) → WordFault known Cell word cause → ⊥
  element_no_fault BadWord f = f (inr (name, index, (e, m.0, digits_begin index m.4.0.0 m.4.0.1)))
  element_no_fault BadNumber f =
      let same = same_element known word name index split_of f.0 f.1 f.2 in
      no_bad_index (subst (λ i. IsBadIndex known.mems name i) same.1 (subst (λ n. IsBadIndex known.mems n f.1) same.0 f.3))
  element_no_fault UnknownName (inl f) = no_name word name (index ++ 93 ∷ []) split_of f.0
  element_no_fault UnknownName (inr f) =
      let same = same_element known word name index split_of f.0 f.1 f.2 in
      subst (λ n. IsUndeclared known.mems n true) same.0 f.3 m.1 m.3
  element_no_fault cause f = f

pub cell_no_fault : (known : Known) (word : List ℕ) (cell : ℕ) → CellMeans known.mems word cell → (cause : Cause) → WordFault known Cell word cause → ⊥
cell_no_fault known word cell (inl m) cause f = single_no_fault known word cell cause m f
cell_no_fault known word cell (inr m) cause f = element_no_fault known word m.0 m.1 cell m.2 m.3 cause f
