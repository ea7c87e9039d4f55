-- A word in its place means something or has a lowest cause why not.
use Rattle.std.proofs.Common.{◌≡◌, ◌≢◌, ◌⊎◌, inl, inr, ℕ, ◌+◌, ◌<◌, ◌≤◌, true, false, List, [], ◌∷◌, ◌++◌, length, refl, sym, ◌∙◌, ap, subst, arith}
use Rattle.std.specs.Prelude.{Option, Some, None, Result, Ok, Err, MatchResult}
use Rattle.std.specs.Str.{bytes_eq}
use Rattle.text_words.specs.declared.fault.Cause.{Cause}
use Rattle.text_words.specs.declared.fault.Cause.TheVariants.{BadWord, UnknownName, TwiceNamed, TooMany}
use Rattle.text_words.specs.declared.value.Mem.{Mem}
use Rattle.text_words.specs.Limits.{max_value}
use Rattle.text_words.specs.Names.{memory_named, reducer_named, IsDeclared, IsFresh as IsUndeclaredName}
use Rattle.text_words.proofs.Decided.{OrNot, both_or_not, below_or_not, most_or_not, word_or_not, name_or_not}
use Rattle.text_words.specs.Text.{IsName}
use Rattle.trace_text.proofs.LineReadings.{Reading as ReadingBy}
use Rattle.trace_text.specs.Lines as trace
use Rattle.trace_text.specs.Cells.{IsSingleFault}
use Rattle.trace_text.specs.Faults.{IsUndeclared}
use Rattle.trace_text.proofs.CellWords.{IsSplit, HasNoBracket, no_element}
use Rattle.trace_text.proofs.Readings.{Reading as CommonReading, word_reading as common_reading, number_reading, split_or_not, closed_or_not, declared_or_not}
use Rattle.model_bodies.specs.declared.statement.Register.{Register}
use Rattle.model_bodies.specs.declared.statement.Operand.{Operand}
use Rattle.model_bodies.specs.declared.statement.Operand.TheVariants.{Number, Held}
use Rattle.model_bodies.specs.declared.statement.Location.{Location}
use Rattle.model_bodies.specs.declared.statement.Location.TheVariants.{Cell, Element}
use Rattle.program_lines.specs.Scopes.{NameScope, max_registers, ok_word, register_named, function_named, HasNotBegun, IsFresh}
use Rattle.program_lines.specs.Places.{Place, Common, FreshName, OperandWord, LocationWord, AssignedRegister, KnownRegister, FunctionName, ParameterName, Sign, Exactly, Plain, OfOperand, OfLocation, OfRegister, OfAssigned, OfSign, Nothing, WordMeans, IsRegisterName, OperandMeans, sign_spelling}
use Rattle.program_lines.specs.Locations.{SingleIs, ElementIs, IsElementFault}
use Rattle.program_lines.specs.Faults.{WordFault}
use Rattle.program_lines.specs.Outcome.{Reads}
use Rattle.program_lines.proofs.Keywords.{sign_of_word, sign_of_spelling}
use Rattle.program_lines.proofs.LocationWords.{lowest_bad_word, number_operand, unknown_operand, single_reads, no_closing, element_reads, index_fault, no_array}
use Rattle.program_lines.proofs.Outcomes.{lowest_twice, lowest_no_register, lowest_no_function, lowest_no_room}
use Rattle.program_lines.proofs.Within.{below_by, position_below}

abbrev pub Reading : NameScope → Place → List ℕ → Type 0
Reading scope = ReadingBy (WordMeans scope) (WordFault scope)

-- the number of a register that is known, where there are no more than a function can have
register_below : (registers : List (List ℕ)) (word : List ℕ) (index : ℕ) → length registers ≤ max_registers → register_named registers word ≡ Some index → index < 17
register_below registers word index few e =
    below_by (bytes_eq word ok_word) 0 index 17 _ (omega arith) (λ f. let l = position_below (bytes_eq word) 1 index registers f in omega (arith, l, few)) e

register_name_or_not : (word : List ℕ) → OrNot (IsRegisterName word)
register_name_or_not word = both_or_not (name_or_not word) (differs (word_or_not word ok_word))
  where
    differs : OrNot (word ≡ ok_word) → OrNot (word ≢ ok_word)
    differs (inl e) = inr (λ h. h e)
    differs (inr h) = inl h

module _ (scope : NameScope) (few : length scope.registers ≤ max_registers) where
  abbrev register_with : (word : List ℕ) (index : ℕ) → register_named scope.registers word ≡ Some index → Register
  register_with word index e = record { index = index; in_range = register_below scope.registers word index few e }

  -- ---- names, registers, operands and signs

  shared_reading : (place : trace.Place) (word : List ℕ) → Reading scope (Common place) word
  shared_reading place word = go (common_reading scope.known place word)
    where
      go : CommonReading scope.known place word → Reading scope (Common place) word
      go (Ok value, m) = (Ok (Plain value), m)
      go (Err cause, f) = (Err cause, f)

  undeclared_or_not : (word : List ℕ) → OrNot (IsUndeclaredName scope.known word)
  undeclared_or_not word = go (memory_named scope.known.mems word) (reducer_named scope.known.reducers word) refl refl
    where
      go : (mem : Option Mem) (reducer : Option ℕ) → memory_named scope.known.mems word ≡ mem → reducer_named scope.known.reducers word ≡ reducer → OrNot (IsUndeclaredName scope.known word)
      go None None e f = inl (e, f)
      go (Some mem) reducer e f = inr (λ fresh. let clash : Some mem ≡ None = sym e ∙ fresh.0 in cc)
      go None (Some reducer) e f = inr (λ fresh. let clash : Some reducer ≡ None = sym f ∙ fresh.1 in cc)

  begun_or_not : (word : List ℕ) → OrNot (HasNotBegun scope word)
  begun_or_not word = go (function_named scope.functions word) refl
    where
      by : (number : ℕ) → function_named scope.functions word ≡ Some number → OrNot (scope.begun ≤ number) → OrNot (HasNotBegun scope word)
      by number e (inl l) = inl (λ other f. let same : Some number ≡ Some other = sym e ∙ f in let one : number ≡ other = cc in subst (λ (n : ℕ). scope.begun ≤ n) one l)
      by number e (inr h) = inr (λ later. h (later number e))

      go : (number : Option ℕ) → function_named scope.functions word ≡ number → OrNot (HasNotBegun scope word)
      go None e = inl (λ number f. let clash : None ≡ Some number = sym e ∙ f in cc)
      go (Some number) e = by number e (most_or_not scope.begun number)

  fresh_reading : (word : List ℕ) → Reading scope FreshName word
  fresh_reading word = go (name_or_not word) (both_or_not (undeclared_or_not word) (begun_or_not word))
    where
      go : OrNot (IsName word) → OrNot (IsFresh scope word) → Reading scope FreshName word
      go (inr fails) fresh = (Err BadWord, lowest_bad_word scope FreshName word fails)
      go (inl is) (inl fresh) = (Ok (Plain (trace.OfName word)), (refl, is, fresh))
      go (inl is) (inr twice) = (Err TwiceNamed, lowest_twice scope word is twice)

  operand_reading : (word : List ℕ) → (answer : Result Operand Cause) × Reads scope OperandWord word answer OfOperand
  operand_reading word = go (name_or_not word) (register_named scope.registers word) refl
    where
      numbered : (IsName word → ⊥) → CommonReading scope.known (trace.Number 0 max_value) word → (answer : Result Operand Cause) × Reads scope OperandWord word answer OfOperand
      numbered fails (Ok (trace.OfNumber number), m) = (Ok (Number number), m)
      numbered fails (Ok value, m) = absurd m
      numbered fails (Err cause, f) = (Err cause, number_operand scope word cause fails f)

      go : OrNot (IsName word) → (register : Option ℕ) → register_named scope.registers word ≡ register → (answer : Result Operand Cause) × Reads scope OperandWord word answer OfOperand
      go (inr fails) register e = numbered fails (number_reading scope.known 0 max_value word)
      go (inl is) (Some index) e = (Ok (Held (register_with word index e)), (is, e))
      go (inl is) None e = (Err UnknownName, unknown_operand scope word is e)

  known_reading : (word : List ℕ) → Reading scope KnownRegister word
  known_reading word = go (name_or_not word) (register_named scope.registers word) refl
    where
      go : OrNot (IsName word) → (register : Option ℕ) → register_named scope.registers word ≡ register → Reading scope KnownRegister word
      go (inr fails) register e = (Err BadWord, lowest_bad_word scope KnownRegister word fails)
      go (inl is) (Some index) e = (Ok (OfRegister (register_with word index e)), (is, e))
      go (inl is) None e = (Err UnknownName, lowest_no_register scope word is e)

  assigned_reading : (word : List ℕ) → Reading scope AssignedRegister word
  assigned_reading word = go (register_name_or_not word) (register_named scope.registers word) refl (below_or_not (length scope.registers) max_registers)
    where
      more : (count : ℕ) → count < 16 → count + 1 < 17
      more count l = omega arith

      most : (count : ℕ) → (count < 16 → ⊥) → 16 ≤ count
      most count h = elim (below_or_not count 16) [ inl l ↦ absurd (h l) | inr l ↦ omega arith ]

      go : OrNot (IsRegisterName word) → (register : Option ℕ) → register_named scope.registers word ≡ register → OrNot (length scope.registers < max_registers) → Reading scope AssignedRegister word
      go (inr fails) register e room = (Err BadWord, lowest_bad_word scope AssignedRegister word fails)
      go (inl is) (Some index) e room = (Ok (OfAssigned (register_with word index e) None), (is, e))
      go (inl is) None e (inl room) =
          (Ok (OfAssigned (record { index = length scope.registers + 1; in_range = more (length scope.registers) room }) (Some word)), (refl, is, e, refl))
      go (inl is) None e (inr full) = (Err TooMany, lowest_no_room scope word is e (most (length scope.registers) full))

  function_reading : (word : List ℕ) → Reading scope FunctionName word
  function_reading word = go (name_or_not word) (function_named scope.functions word) refl
    where
      go : OrNot (IsName word) → (function : Option ℕ) → function_named scope.functions word ≡ function → Reading scope FunctionName word
      go (inr fails) function e = (Err BadWord, lowest_bad_word scope FunctionName word fails)
      go (inl is) (Some number) e = (Ok (Plain (trace.OfNumber number)), (is, e))
      go (inl is) None e = (Err UnknownName, lowest_no_function scope word is e)

  parameter_reading : (word : List ℕ) → Reading scope ParameterName word
  parameter_reading word = go (register_name_or_not word)
    where
      go : OrNot (IsRegisterName word) → Reading scope ParameterName word
      go (inl is) = (Ok (Plain (trace.OfName word)), (refl, is))
      go (inr fails) = (Err BadWord, lowest_bad_word scope ParameterName word fails)

  sign_reading : (word : List ℕ) → Reading scope Sign word
  sign_reading word = go (word_or_not word (sign_spelling (sign_of_word word)))
    where
      go : OrNot (word ≡ sign_spelling (sign_of_word word)) → Reading scope Sign word
      go (inl e) = (Ok (OfSign (sign_of_word word)), e)
      go (inr fails) = (
        Err BadWord,
        lowest_bad_word scope Sign word (λ shape. fails (shape.1 ∙ ap sign_spelling (sym (sign_of_spelling shape.0) ∙ ap sign_of_word (sym shape.1)))),
      )

  exact_reading : (other word : List ℕ) → Reading scope (Exactly other) word
  exact_reading other word = go (word_or_not word other)
    where
      go : OrNot (word ≡ other) → Reading scope (Exactly other) word
      go (inl e) = (Ok Nothing, e)
      go (inr fails) = (Err BadWord, lowest_bad_word scope (Exactly other) word fails)

  -- ---- locations

  single : (word : List ℕ) → (answer : Result Location Cause) × MatchResult answer (SingleIs scope word) (IsSingleFault scope.known.mems word)
  single word = go (name_or_not word) (declared_or_not scope.known.mems word false)
    where
      go : OrNot (IsName word) → ((mem : Mem) × IsDeclared scope.known.mems word false mem) ⊎ IsUndeclared scope.known.mems word false →
          (answer : Result Location Cause) × MatchResult answer (SingleIs scope word) (IsSingleFault scope.known.mems word)
      go (inr fails) mem = (Err BadWord, fails)
      go (inl is) (inl (mem, d)) = (Ok (Cell mem.first), (is, mem, d, refl))
      go (inl is) (inr none) = (Err UnknownName, (is, none))

  element : (name index : List ℕ) → (answer : Result Location Cause) × MatchResult answer (ElementIs scope name index) (IsElementFault scope name index)
  element name index = go (name_or_not name) (operand_reading index)
    where
      found : IsName name → (operand : Operand) → OperandMeans scope.registers index operand → ((mem : Mem) × IsDeclared scope.known.mems name true mem) ⊎ IsUndeclared scope.known.mems name true →
          (answer : Result Location Cause) × MatchResult answer (ElementIs scope name index) (IsElementFault scope name index)
      found is operand m (inl (mem, d)) = (Ok (Element mem.first mem.cells operand), (is, (mem, d, refl, refl), m))
      found is operand m (inr none) = (Err UnknownName, no_array scope name index is operand m none)

      go : OrNot (IsName name) → (answer : Result Operand Cause) × Reads scope OperandWord index answer OfOperand →
          (answer : Result Location Cause) × MatchResult answer (ElementIs scope name index) (IsElementFault scope name index)
      go (inr fails) read = (Err BadWord, λ is shape. fails is)
      go (inl is) (Ok operand, m) = found is operand m (declared_or_not scope.known.mems name true)
      go (inl is) (Err cause, f) = (Err cause, index_fault scope name index is cause f)

  location_reading : (word : List ℕ) → Reading scope LocationWord word
  location_reading word = go (split_or_not word)
    where
      as_location : (answer : Result Location Cause) → Reads scope LocationWord word answer OfLocation → Reading scope LocationWord word
      as_location (Ok location) m = (Ok (OfLocation location), m)
      as_location (Err cause) f = (Err cause, f)

      by : (name rest : List ℕ) → IsSplit word name rest → ((front : List ℕ) × (rest ≡ front ++ 93 ∷ [])) ⊎ ((front : List ℕ) → rest ≢ front ++ 93 ∷ []) → Reading scope LocationWord word
      by name rest s (inl (index, e)) =
          let read = element name index in
          as_location read.0 (element_reads scope word name index (subst (λ (w : List ℕ). IsSplit word name w) e s) read.0 read.1)
      by name rest s (inr none) = (Err BadWord, no_closing scope word name rest s none)

      go : ((name : List ℕ) × (rest : List ℕ) × IsSplit word name rest) ⊎ HasNoBracket word → Reading scope LocationWord word
      go (inl (name, rest, s)) = by name rest s (closed_or_not rest)
      go (inr none) =
          let read = single word in
          as_location read.0 (single_reads scope word read.0 (λ name index shape. no_element word name index none shape.0) read.1)

  -- ---- a word in its place

  pub word_reading : (place : Place) (word : List ℕ) → Reading scope place word
  word_reading (Common place) word = shared_reading place word
  word_reading FreshName word = fresh_reading word
  word_reading OperandWord word = go (operand_reading word)
    where
      go : (answer : Result Operand Cause) × Reads scope OperandWord word answer OfOperand → Reading scope OperandWord word
      go (Ok operand, m) = (Ok (OfOperand operand), m)
      go (Err cause, f) = (Err cause, f)
  word_reading LocationWord word = location_reading word
  word_reading AssignedRegister word = assigned_reading word
  word_reading KnownRegister word = known_reading word
  word_reading FunctionName word = function_reading word
  word_reading ParameterName word = parameter_reading word
  word_reading Sign word = sign_reading word
  word_reading (Exactly other) word = exact_reading other word
