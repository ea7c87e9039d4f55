-- Words in their places: what means something has no fault, and the lowest cause of more words is the lower one.
-- A, B: the types of values; a, b, r: results, each a value or a cause
use Rattle.std.proofs.Common.{◌≡◌, ℕ, ◌<◌, ◌≤◌, ◌+◌, ◌∷◌, [], List, length, arith, refl, sym, subst, inl, inr}
use Rattle.std.specs.Prelude.{Option, Some, None, Result, Ok, Err}
use Rattle.text_words.specs.declared.fault.Cause.{Cause}
use Rattle.text_words.specs.declared.fault.Cause.TheVariants.{NotText, BadHeader, BadWord, BadNumber, UnknownName, TwiceNamed, BadNesting, NoMain, TooMany}
use Rattle.text_words.specs.Causes.{IsLowest, cause_number, both_of}
use Rattle.trace_text.proofs.LineOutcomes.{IsClear, reads as word_and_rest}
use Rattle.trace_text.specs.Lines as trace
use Rattle.trace_text.specs.Outcome.{Fits as FitsCommon}
use Rattle.text_words.specs.Text.{IsName}
use Rattle.trace_text.proofs.Outcomes.{word_clean as common_clean}
use Rattle.program_lines.specs.declared.keyword.Keyword.{Keyword}
use Rattle.program_lines.specs.declared.operator.Operator.{Operator}
use Rattle.model_bodies.specs.declared.statement.Operand.{Operand}
use Rattle.model_bodies.specs.declared.statement.Register.{Register}
use Rattle.program_lines.specs.Scopes.{NameScope, register_named, function_named, max_registers, IsFresh}
use Rattle.program_lines.specs.Places.{Place, Common, FreshName, OperandWord, LocationWord, AssignedRegister, KnownRegister, FunctionName, ParameterName, Sign, Exactly, Value, Plain, OfOperand, OfLocation, OfRegister, OfAssigned, OfSign, Nothing, WordMeans, OperandMeans, RegisterMeans, AssignedMeans, IsRegisterName}
use Rattle.program_lines.specs.Table.{table, spelling, HasKeyword, wanted, optional, Placed, placed, WordsMean, Says}
use Rattle.program_lines.specs.Grammar.{number_if_there}
use Rattle.program_lines.specs.Faults.{WordFault}
use Rattle.program_lines.specs.Outcome.{Reads, Fits}
use Rattle.program_lines.proofs.Keywords.{keyword_of_word, keyword_of_spelling}
use Rattle.program_lines.proofs.LocationWords.{below_word, unnamed, operand_shape, operand_number, operand_known, location_no_fault}

module _ (scope : NameScope) where
  -- ---- a word that means something has no fault

  fresh_no_fault : (word : List ℕ) → IsName word → IsFresh scope word → (cause : Cause) → WordFault scope FreshName word cause → ⊥
  fresh_no_fault word n e BadWord f = f n
  fresh_no_fault word n e TwiceNamed f = f e
  fresh_no_fault word n e cause f = f

  operand_no_fault : (word : List ℕ) (operand : Operand) → OperandMeans scope.registers word operand → (cause : Cause) → WordFault scope OperandWord word cause → ⊥
  operand_no_fault word operand m BadWord f = f (operand_shape scope word operand m)
  operand_no_fault word operand m BadNumber f = operand_number scope word operand m f
  operand_no_fault word operand m UnknownName f = operand_known scope word operand m f
  operand_no_fault word operand m cause f = f

  known_no_fault : (word : List ℕ) (register : Register) → RegisterMeans scope.registers word register → (cause : Cause) → WordFault scope KnownRegister word cause → ⊥
  known_no_fault word register m BadWord f = f m.0
  known_no_fault word register m UnknownName f = unnamed _ _ m.1 f.1
  known_no_fault word register m cause f = f

  assigned_no_fault : (word : List ℕ) (register : Register) (named : Option (List ℕ)) → AssignedMeans scope.registers word register named → (cause : Cause) → WordFault scope AssignedRegister word cause → ⊥
  assigned_no_fault word register None m BadWord f = f m.0
  assigned_no_fault word register None m TooMany f = unnamed _ _ m.1 f.0
  assigned_no_fault word register (Some name) m BadWord f = f m.1
  assigned_no_fault word register (Some name) m TooMany f =
      let few : register.index < 17 = register.in_range in
      let next : register.index ≡ length scope.registers + 1 = m.3 in
      omega (arith, f.1)
  assigned_no_fault word register named m cause f = f

  function_no_fault : (word : List ℕ) (number : ℕ) → IsName word → function_named scope.functions word ≡ Some number → (cause : Cause) → WordFault scope FunctionName word cause → ⊥
  function_no_fault word number n e BadWord f = f n
  function_no_fault word number n e UnknownName f = unnamed _ _ e f.1
  function_no_fault word number n e cause f = f

  parameter_no_fault : (word : List ℕ) → IsRegisterName word → (cause : Cause) → WordFault scope ParameterName word cause → ⊥
  parameter_no_fault word n BadWord f = f n
  parameter_no_fault word n cause f = f

  sign_no_fault : (word : List ℕ) (operator : Operator) → WordMeans scope Sign word (OfSign operator) → (cause : Cause) → WordFault scope Sign word cause → ⊥
  sign_no_fault word operator m BadWord f = f (operator, m)
  sign_no_fault word operator m cause f = f

  exact_no_fault : (other word : List ℕ) → word ≡ other → (cause : Cause) → WordFault scope (Exactly other) word cause → ⊥
  exact_no_fault other word m BadWord f = f m
  exact_no_fault other word m cause f = f

  pub word_clean : (place : Place) (word : List ℕ) (value : Value) → WordMeans scope place word value → (cause : Cause) → WordFault scope place word cause → ⊥
  word_clean (Common place) word (Plain value) m cause f = common_clean scope.known place word value m cause f
  word_clean FreshName word (Plain (trace.OfName name)) m cause f = fresh_no_fault word m.1 m.2 cause f
  word_clean OperandWord word (OfOperand operand) m cause f = operand_no_fault word operand m cause f
  word_clean LocationWord word (OfLocation location) m cause f = location_no_fault scope word location m cause f
  word_clean AssignedRegister word (OfAssigned register named) m cause f = assigned_no_fault word register named m cause f
  word_clean KnownRegister word (OfRegister register) m cause f = known_no_fault word register m cause f
  word_clean FunctionName word (Plain (trace.OfNumber number)) m cause f = function_no_fault word number m.0 m.1 cause f
  word_clean ParameterName word (Plain (trace.OfName name)) m cause f = parameter_no_fault word m.1 cause f
  word_clean Sign word (OfSign operator) m cause f = sign_no_fault word operator m cause f
  word_clean (Exactly other) word Nothing m cause f = exact_no_fault other word m cause f
  word_clean place word value m cause f = m

  -- so the grammar is clear
  pub clear : IsClear table (WordMeans scope) (WordFault scope)
  clear = record { keyword_of = keyword_of_word; of_spelling = keyword_of_spelling; word_clean = word_clean; below_word = below_word scope }

  -- ---- a word and the rest

  pub reads : (place : Place) (places last : List Place) (word : List ℕ) (words : List (List ℕ)) {A B : Type 0} (a : Result A Cause) (b : Result B Cause) (r : Result (A × B) Cause)
      (value : A → Value) (values : B → List Value) → r ≡ both_of a b → Reads scope place word a value → Fits scope places last words b values
      → Fits scope (place ∷ places) last (word ∷ words) r (λ x. value x.0 ∷ values x.1)
  reads place places last word words {A} {B} a b r value values e m f =
      subst (λ (answer : Result (A × B) Cause). Fits scope (place ∷ places) last (word ∷ words) answer (λ x. value x.0 ∷ values x.1)) (sym e)
      (word_and_rest clear place places last word words a b value values m f)

  pub one_word : (place : Place) (last : List Place) (word : List ℕ) {A : Type 0} (r : Result A Cause) (value : A → Value) → Reads scope place word r value
      → Fits scope (place ∷ []) last (word ∷ []) r (λ x. value x ∷ [])
  one_word place last word (Ok x) value m = ((place, word) ∷ [], refl, (m, tt))
  one_word place last word (Err cause) value f = (inl f.0, λ lower l g. elim g [ inl w ↦ f.1 lower l w | inr n ↦ n ])

  pub two_words : (first second : Place) (word other : List ℕ) {A B : Type 0} (a : Result A Cause) (b : Result B Cause) (r : Result (A × B) Cause)
      (value : A → Value) (more : B → Value) → r ≡ both_of a b → Reads scope first word a value → Reads scope second other b more
      → Fits scope (first ∷ second ∷ []) [] (word ∷ other ∷ []) r (λ x. value x.0 ∷ more x.1 ∷ [])
  two_words first second word other a b r value more e m n =
      reads first (second ∷ []) [] word (other ∷ []) a b r value (λ x. more x ∷ []) e m (one_word second [] other b more n)

  -- a word whose meaning is known, and the rest
  pub known_word : (place : Place) (places last : List Place) (word : List ℕ) (words : List (List ℕ)) {B : Type 0} (b : Result B Cause) (value : Value) (values : B → List Value)
      → WordMeans scope place word value → Fits scope places last words b values → Fits scope (place ∷ places) last (word ∷ words) b (λ x. value ∷ values x)
  known_word place places last word words {B} b value values m f =
      alone b (word_and_rest clear place places last word words {A = Unit {0}} (Ok tt) b (λ _. value) values m f)
    where
      alone : (c : Result B Cause) → Fits scope (place ∷ places) last (word ∷ words) (both_of {A = Unit {0}} (Ok tt) c) (λ x. value ∷ values x.1)
          → Fits scope (place ∷ places) last (word ∷ words) c (λ x. value ∷ values x)
      alone (Ok x) g = g
      alone (Err cause) g = g

  -- two operands and the sign between them
  pub joined_words : (left sign right : List ℕ) (operator : Operator) (a b : Result Operand Cause) (r : Result (Operand × Operand) Cause) → r ≡ both_of a b
      → Reads scope OperandWord left a OfOperand → WordMeans scope Sign sign (OfSign operator) → Reads scope OperandWord right b OfOperand
      → Fits scope (OperandWord ∷ []) (Sign ∷ OperandWord ∷ []) (left ∷ sign ∷ right ∷ []) r (λ x. OfOperand x.0 ∷ OfSign operator ∷ OfOperand x.1 ∷ [])
  joined_words left sign right operator a b r e m s n =
      reads OperandWord [] (Sign ∷ OperandWord ∷ []) left (sign ∷ right ∷ []) a b r OfOperand (λ x. OfSign operator ∷ OfOperand x ∷ []) e m (behind b n)
    where
      behind : (c : Result Operand Cause) → Reads scope OperandWord right c OfOperand
          → Fits scope [] (Sign ∷ OperandWord ∷ []) (sign ∷ right ∷ []) c (λ x. OfSign operator ∷ OfOperand x ∷ [])
      behind c k = known_word Sign (OperandWord ∷ []) [] sign (right ∷ []) c (OfSign operator) (λ x. OfOperand x ∷ []) s (one_word OperandWord [] right c OfOperand k)

  -- words that mean values behind a keyword
  pub said : (keyword : Keyword) (words : List (List ℕ)) (values : List Value) → HasKeyword scope.known.version keyword
      → ((pairs : List Placed) × (placed (wanted keyword) (optional keyword) words ≡ Some pairs) × WordsMean scope pairs values)
      → Says scope (spelling keyword ∷ words) keyword values
  said keyword words values has f = (f.0, (words, refl, has, f.1), f.2)

  -- ---- places as in traces

  pub fits_common : (place : trace.Place) (words : List (List ℕ)) (r : Result (Option ℕ) Cause)
      → FitsCommon scope.known [] (Some place) words r trace.if_there → Fits scope [] (Common place ∷ []) words r number_if_there
  fits_common place [] (Ok None) f = ([], refl, tt)
  fits_common place [] (Ok (Some n)) f =
      let same : [] ≡ f.0 = let some : Some [] ≡ Some f.0 = f.1 in cc in
      absurd (subst (λ (ps : List trace.Placed). trace.WordsMean scope.known ps (trace.OfNumber n ∷ [])) (sym same) f.2)
  fits_common place [] (Err cause) f = absurd f.0
  fits_common place (word ∷ []) (Ok None) f =
      let same : (place, word) ∷ [] ≡ f.0 = let some : Some ((place, word) ∷ []) ≡ Some f.0 = f.1 in cc in
      absurd (subst (λ (ps : List trace.Placed). trace.WordsMean scope.known ps []) (sym same) f.2)
  fits_common place (word ∷ []) (Ok (Some n)) f =
      let same : (place, word) ∷ [] ≡ f.0 = let some : Some ((place, word) ∷ []) ≡ Some f.0 = f.1 in cc in
      let m = subst (λ (ps : List trace.Placed). trace.WordsMean scope.known ps (trace.OfNumber n ∷ [])) (sym same) f.2 in
      ((Common place, word) ∷ [], refl, (m.0, tt))
  fits_common place (word ∷ []) (Err cause) f = f
  fits_common place (word ∷ next ∷ words) (Ok n) f = let clash : None ≡ Some f.0 = f.1 in cc
  fits_common place (word ∷ next ∷ words) (Err cause) f = f

  -- ---- lowest causes

  pub lowest_twice : (word : List ℕ) → IsName word → (IsFresh scope word → ⊥) → IsLowest (WordFault scope FreshName word) TwiceNamed
  lowest_twice word n h = (h, below)
    where
      below : (lower : Cause) → cause_number lower < 6 → WordFault scope FreshName word lower → ⊥
      below NotText l f = f
      below BadHeader l f = f
      below BadWord l f = f n
      below BadNumber l f = f
      below UnknownName l f = f
      below cause l f = absurd (omega arith)

  pub lowest_no_register : (word : List ℕ) → IsName word → register_named scope.registers word ≡ None → IsLowest (WordFault scope KnownRegister word) UnknownName
  lowest_no_register word n e = ((n, e), below)
    where
      below : (lower : Cause) → cause_number lower < 5 → WordFault scope KnownRegister word lower → ⊥
      below NotText l f = f
      below BadHeader l f = f
      below BadWord l f = f n
      below BadNumber l f = f
      below cause l f = absurd (omega arith)

  pub lowest_no_function : (word : List ℕ) → IsName word → function_named scope.functions word ≡ None → IsLowest (WordFault scope FunctionName word) UnknownName
  lowest_no_function word n e = ((n, e), below)
    where
      below : (lower : Cause) → cause_number lower < 5 → WordFault scope FunctionName word lower → ⊥
      below NotText l f = f
      below BadHeader l f = f
      below BadWord l f = f n
      below BadNumber l f = f
      below cause l f = absurd (omega arith)

  pub lowest_no_room : (word : List ℕ) → IsRegisterName word → register_named scope.registers word ≡ None → max_registers ≤ length scope.registers
      → IsLowest (WordFault scope AssignedRegister word) TooMany
  lowest_no_room word n e many = ((e, many), below)
    where
      below : (lower : Cause) → cause_number lower < 9 → WordFault scope AssignedRegister word lower → ⊥
      below NotText l f = f
      below BadHeader l f = f
      below BadWord l f = f n
      below BadNumber l f = f
      below UnknownName l f = f
      below TwiceNamed l f = f
      below BadNesting l f = f
      below NoMain l f = f
      below cause l f = absurd (omega arith)
