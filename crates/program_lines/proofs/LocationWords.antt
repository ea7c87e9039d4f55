-- Words that are operands, and words that name a location: a name, or a name with an operand in brackets.
use Rattle.std.proofs.Common.{◌≡◌, ◌≢◌, ℕ, ◌<◌, ◌∷◌, ◌++◌, [], List, true, arith, sym, ◌∙◌, inl, inr, subst}
use Rattle.std.specs.Prelude.{Option, Some, None, Result, Ok, Err, MatchResult, IsTrue, ◌⊎◌}
use Rattle.std.specs.Char.{is_ascii_digit, is_ascii_lowercase}
use Rattle.std.proofs.lemmas.Bool.Decides.{nat_tests}
use Rattle.std.proofs.lemmas.List.{append_cancel_right}
use Rattle.text_words.specs.declared.fault.Cause.{Cause}
use Rattle.text_words.specs.declared.fault.Cause.TheVariants.{NotText, BadHeader, BadWord, BadNumber, UnknownName, TwiceNamed, BadNesting, NoMain, TooMany}
use Rattle.text_words.specs.Text.{IsName, BeginsWithDigit}
use Rattle.text_words.specs.Limits.{max_value}
use Rattle.text_words.specs.Names.{element_word, SingleMeans}
use Rattle.trace_text.specs.Cells.{IsSingleFault}
use Rattle.text_words.specs.Causes.{IsLowest, cause_number}
use Rattle.trace_text.specs.Faults.{IsUndeclared, WordFault as CommonFault}
use Rattle.trace_text.specs.Lines as trace
use Rattle.trace_text.proofs.NamedWords.{stable_digit}
use Rattle.trace_text.proofs.CellWords.{IsSplit, name_no_bracket, same_split, flat, no_element, digits_begin, below_word as common_below, no_closing as cell_no_closing}
use Rattle.model_bodies.specs.declared.statement.Operand.{Operand}
use Rattle.model_bodies.specs.declared.statement.Operand.TheVariants.{Number, Held}
use Rattle.model_bodies.specs.declared.statement.Location.{Location}
use Rattle.model_bodies.specs.declared.statement.Location.TheVariants.{Cell, Element}
use Rattle.program_lines.specs.Scopes.{NameScope, register_named}
use Rattle.program_lines.specs.Places.{Place, Common, OperandWord, LocationWord, OfLocation, OperandMeans, ElementMeans, LocationMeans}
use Rattle.program_lines.specs.Faults.{HasShape, HasOperandShape, HasIndexedShape, IsNoNumber, IsNoRegister, WordFault}
use Rattle.program_lines.specs.Locations.{SingleIs, ElementIs, IsElementFault}
use Rattle.program_lines.specs.Outcome.{Reads}

-- ---- names and numbers

no_digit : (byte : ℕ) → IsTrue (is_ascii_lowercase byte) → IsTrue (is_ascii_digit byte) → ⊥
no_digit byte h k = grind (arith, nat_tests)

pub name_no_digit : (word : List ℕ) → IsName word → BeginsWithDigit word → ⊥
name_no_digit [] n d = n
name_no_digit (byte ∷ word) n d = no_digit byte n.0 d

pub unnamed : (o : Option ℕ) (n : ℕ) → o ≡ Some n → o ≡ None → ⊥
unnamed o n h k = cc

-- ---- operands

module _ (scope : NameScope) where
  pub below_word : (place : Place) (word : List ℕ) (lower : Cause) → cause_number lower < 3 → WordFault scope place word lower → ⊥
  below_word (Common place) word lower l f = common_below scope.known place word lower l f
  below_word place word NotText l f = f
  below_word place word BadHeader l f = f
  below_word place word cause l f = absurd (omega arith)

  -- the place wants another shape
  pub lowest_bad_word : (place : Place) (word : List ℕ) → (HasShape place word → ⊥) → IsLowest (WordFault scope place word) BadWord
  lowest_bad_word (Common place) word h = absurd (h tt)
  lowest_bad_word place word h = (h, below_word place word)

  pub operand_shape : (word : List ℕ) (operand : Operand) → OperandMeans scope.registers word operand → HasOperandShape word
  operand_shape word (Number n) m = inr (digits_begin word m.0.0 m.0.1)
  operand_shape word (Held register) m = inl m.0

  pub operand_number : (word : List ℕ) (operand : Operand) → OperandMeans scope.registers word operand → IsNoNumber word → ⊥
  operand_number word (Number n) m f = f.1 n m
  operand_number word (Held register) m f = name_no_digit word m.0 f.0

  pub operand_known : (word : List ℕ) (operand : Operand) → OperandMeans scope.registers word operand → IsNoRegister scope.registers word → ⊥
  operand_known word (Number n) m f = name_no_digit word f.0 (digits_begin word m.0.0 m.0.1)
  operand_known word (Held register) m f = unnamed _ _ m.1 f.1

  -- a number in the place of an operand
  pub number_operand : (word : List ℕ) (cause : Cause) → (IsName word → ⊥) → IsLowest (CommonFault scope.known (trace.Number 0 max_value) word) cause
      → IsLowest (WordFault scope OperandWord word) cause
  number_operand word NotText n f = absurd f.0
  number_operand word BadHeader n f = absurd f.0
  number_operand word BadWord n f = lowest_bad_word OperandWord word (λ shape. elim shape [ inl m ↦ n m | inr b ↦ f.0 b ])
  number_operand word BadNumber n f = ((begins, f.0), below)
    where
      begins : BeginsWithDigit word
      begins = stable_digit word (λ g. f.1 BadWord (omega arith) g)

      below : (lower : Cause) → cause_number lower < 4 → WordFault scope OperandWord word lower → ⊥
      below NotText l g = g
      below BadHeader l g = g
      below BadWord l g = g (inr begins)
      below cause l g = absurd (omega arith)
  number_operand word UnknownName n f = absurd f.0
  number_operand word TwiceNamed n f = absurd f.0
  number_operand word BadNesting n f = absurd f.0
  number_operand word NoMain n f = absurd f.0
  number_operand word TooMany n f = absurd f.0

  -- a register that is not known in the place of an operand
  pub unknown_operand : (word : List ℕ) → IsName word → register_named scope.registers word ≡ None → IsLowest (WordFault scope OperandWord word) UnknownName
  unknown_operand word n e = ((n, e), below)
    where
      below : (lower : Cause) → cause_number lower < 5 → WordFault scope OperandWord word lower → ⊥
      below NotText l g = g
      below BadHeader l g = g
      below BadWord l g = g (inl n)
      below BadNumber l g = name_no_digit word n g.0
      below cause l g = absurd (omega arith)

  -- ---- what a word without a bracket names

  unknown_single : (word : List ℕ) (lower : Cause) → IsName word → cause_number lower < 5 → WordFault scope LocationWord word lower → ⊥
  unknown_single word NotText n l f = f
  unknown_single word BadHeader n l f = f
  unknown_single word BadWord n l f = f (inl n)
  unknown_single word BadNumber n l f = no_element word f.0 f.1 (name_no_bracket word n) f.2.0
  unknown_single word cause n l f = absurd (omega arith)

  single_fault : (word : List ℕ) (cause : Cause) → ((name index : List ℕ) → HasIndexedShape word name index → ⊥) → IsSingleFault scope.known.mems word cause → IsLowest (WordFault scope LocationWord word) cause
  single_fault word BadWord h f =
      lowest_bad_word LocationWord word (λ shape. elim shape [ inl n ↦ f n | inr e ↦ h e.0 e.1 e.2 ])
  single_fault word UnknownName h f = (inl (f.0, f.1), λ lower l g. unknown_single word lower f.0 l g)
  single_fault word cause h f = absurd f

  single_by : (word : List ℕ) (location : Location) → SingleIs scope word location → LocationMeans scope word location
  single_by word (Cell cell) m = m
  single_by word (Element first count operand) m = absurd m

  pub single_reads : (word : List ℕ) (r : Result Location Cause) → ((name index : List ℕ) → HasIndexedShape word name index → ⊥)
      → MatchResult r (SingleIs scope word) (IsSingleFault scope.known.mems word) → Reads scope LocationWord word r OfLocation
  single_reads word (Ok location) h m = single_by word location m
  single_reads word (Err cause) h m = single_fault word cause h m

-- ---- what a word with brackets names

same_parts : (word name rest other index : List ℕ) → IsSplit word name rest → HasIndexedShape word other index → (name ≡ other) × (rest ≡ index ++ 93 ∷ [])
same_parts word name rest other index s shape =
    same_split name other rest (index ++ 93 ∷ []) s.front (name_no_bracket other shape.1) (sym s.whole ∙ (shape.0 ∙ flat other index))

pub no_closing : (scope : NameScope) (word name rest : List ℕ) → IsSplit word name rest → ((front : List ℕ) → rest ≢ front ++ 93 ∷ []) → IsLowest (WordFault scope LocationWord word) BadWord
no_closing scope word name rest s h =
    lowest_bad_word scope LocationWord word
    (λ shape. elim shape [
      | inl n ↦ (cell_no_closing scope.known word name rest s h).0 (inl n)
      | inr e ↦ h e.1 (same_parts word name rest e.0 e.1 s e.2).1
    ])

module _ (scope : NameScope) (word name index : List ℕ) (s : IsSplit word name (index ++ 93 ∷ [])) where
  element_is : word ≡ element_word name index
  element_is = s.whole ∙ sym (flat name index)

  pub no_name : IsName word → ⊥
  no_name n = no_element word name index (name_no_bracket word n) element_is

  same_element : (other place : List ℕ) → HasIndexedShape word other place → (other ≡ name) × (place ≡ index)
  same_element other place shape =
      let same = same_parts word name (index ++ 93 ∷ []) other place s shape in
      (sym same.0, sym (append_cancel_right index place (93 ∷ []) same.1))

  no_shape : (IsName name → HasOperandShape index → ⊥) → HasShape LocationWord word → ⊥
  no_shape f (inl n) = no_name n
  no_shape f (inr e) =
      let same = same_element e.0 e.1 e.2 in
      f (subst IsName same.0 e.2.1) (subst HasOperandShape same.1 e.2.2)

  bad_number_below : (lower : Cause) → IsName name → HasOperandShape index → cause_number lower < 4 → WordFault scope LocationWord word lower → ⊥
  bad_number_below NotText n b l f = f
  bad_number_below BadHeader n b l f = f
  bad_number_below BadWord n b l f = f (inr (name, index, (element_is, n, b)))
  bad_number_below cause n b l f = absurd (omega arith)

  unknown_below : (lower : Cause) → IsName name → HasOperandShape index → (IsNoNumber index → ⊥) → cause_number lower < 5 → WordFault scope LocationWord word lower → ⊥
  unknown_below NotText n b g l f = f
  unknown_below BadHeader n b g l f = f
  unknown_below BadWord n b g l f = f (inr (name, index, (element_is, n, b)))
  unknown_below BadNumber n b g l f =
      let same = same_element f.0 f.1 f.2 in
      g (subst IsNoNumber same.1 f.3)
  unknown_below cause n b g l f = absurd (omega arith)

  element_fault : (cause : Cause) → IsElementFault scope name index cause → IsLowest (WordFault scope LocationWord word) cause
  element_fault BadWord f = lowest_bad_word scope LocationWord word (no_shape f)
  element_fault BadNumber f = ((name, index, (element_is, f.0, inr f.1.0), f.1), λ lower l g. bad_number_below lower f.0 (inr f.1.0) l g)
  element_fault UnknownName f = (inr (name, index, (element_is, f.0, f.1), f.3), λ lower l g. unknown_below lower f.0 f.1 f.2 l g)
  element_fault cause f = absurd f

  element_by : (location : Location) → ElementIs scope name index location → LocationMeans scope word location
  element_by (Cell cell) m = absurd m
  element_by (Element first count operand) m = (name, index, element_is, m)

  pub element_reads : (r : Result Location Cause) → MatchResult r (ElementIs scope name index) (IsElementFault scope name index) → Reads scope LocationWord word r OfLocation
  element_reads (Ok location) m = element_by location m
  element_reads (Err cause) m = element_fault cause m

-- ---- faults of elements

module _ (scope : NameScope) (name index : List ℕ) (n : IsName name) where
  -- the index has a fault
  pub index_fault : (cause : Cause) → IsLowest (WordFault scope OperandWord index) cause → IsElementFault scope name index cause
  index_fault NotText f = f.0
  index_fault BadHeader f = f.0
  index_fault BadWord f = λ m shape. f.0 shape
  index_fault BadNumber f = (n, f.0)
  index_fault UnknownName f = (n, inl f.0.0, λ bad. f.1 BadNumber (omega arith) bad, inr f.0)
  index_fault TwiceNamed f = absurd f.0
  index_fault BadNesting f = f.0
  index_fault NoMain f = f.0
  index_fault TooMany f = absurd f.0

  -- the index is an operand, and the name names no array
  pub no_array : (operand : Operand) → OperandMeans scope.registers index operand → IsUndeclared scope.known.mems name true → IsElementFault scope name index UnknownName
  no_array operand m f = (n, operand_shape scope index operand m, operand_number scope index operand m, inl f)

-- ---- what a word names has no fault

single_no_fault : (scope : NameScope) (word : List ℕ) (cell : ℕ) (cause : Cause) → SingleMeans scope.known.mems word cell → WordFault scope LocationWord word cause → ⊥
single_no_fault scope word cell BadWord m f = f (inl m.0)
single_no_fault scope word cell BadNumber m f = no_element word f.0 f.1 (name_no_bracket word m.0) f.2.0
single_no_fault scope word cell UnknownName m (inl f) = f.1 m.1 m.2
single_no_fault scope word cell UnknownName m (inr f) = no_element word f.0 f.1 (name_no_bracket word m.0) f.2.0
single_no_fault scope word cell cause m f = f

module _ (scope : NameScope) (word name index : List ℕ) (first count : ℕ) (operand : Operand) (e : word ≡ element_word name index) (m : ElementMeans scope name index first count operand) where
  split_of : IsSplit word name (index ++ 93 ∷ [])
  split_of = record { whole = e ∙ flat name index; front = name_no_bracket name m.0 }

  unknown_parts : IsUndeclared scope.known.mems name true ⊎ IsNoRegister scope.registers index → ⊥
  unknown_parts (inl f) = f m.1.0 m.1.1
  unknown_parts (inr f) = operand_known scope index operand m.2 f

  element_no_fault : (cause : Cause) → WordFault scope LocationWord word cause → ⊥
  element_no_fault BadWord f = f (inr (name, index, (e, m.0, operand_shape scope index operand m.2)))
  element_no_fault BadNumber f =
      let same = same_element scope word name index split_of f.0 f.1 f.2 in
      operand_number scope index operand m.2 (subst IsNoNumber same.1 f.3)
  element_no_fault UnknownName (inl f) = no_name scope word name index split_of f.0
  element_no_fault UnknownName (inr f) =
      let same = same_element scope word name index split_of f.0 f.1 f.2 in
      unknown_parts
      (subst (λ i. IsUndeclared scope.known.mems name true ⊎ IsNoRegister scope.registers i) same.1
      (subst (λ x. IsUndeclared scope.known.mems x true ⊎ IsNoRegister scope.registers f.1) same.0 f.3))
  element_no_fault cause f = f

pub location_no_fault : (scope : NameScope) (word : List ℕ) (location : Location) → LocationMeans scope word location → (cause : Cause) → WordFault scope LocationWord word cause → ⊥
location_no_fault scope word (Cell cell) m cause f = single_no_fault scope word cell cause m f
location_no_fault scope word (Element first count operand) m cause f = element_no_fault scope word m.0 m.1 first count operand m.2 m.3 cause f
