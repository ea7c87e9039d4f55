-- The words of a line say something in their scope, or have a lowest cause why not.
use Rattle.std.proofs.Common.{◌≡◌, ◌⊎◌, inl, inr, ℕ, List, [], ◌∷◌, refl, sym, ◌∙◌, ap, subst}
use Rattle.model_accesses.specs.declared.kind.Kind.TheVariants as kind
use Rattle.text_words.specs.declared.fault.Cause.{Cause}
use Rattle.text_words.specs.declared.value.Version.{Version}
use Rattle.text_words.specs.declared.value.Version.TheVariants.{One, Two}
use Rattle.text_words.specs.Causes.{IsLowest}
use Rattle.model_accesses.specs.Limits.{most_cells}
use Rattle.text_words.proofs.Decided.{OrNot}
use Rattle.trace_text.proofs.Formed.{behind_first, line_formed, all_formed as all_formed_by}
use Rattle.trace_text.proofs.LineReadings.{Told as ToldBy, line_told as line_told_by}
use Rattle.trace_text.specs.Lines as trace
use Rattle.program_lines.specs.declared.keyword.Keyword.{Keyword}
use Rattle.program_lines.specs.declared.keyword.Keyword.TheVariants as begin
use Rattle.program_lines.specs.declared.operator.Operator.{Operator}
use Rattle.program_lines.specs.declared.operator.Operator.TheVariants.{Plus, Minus, Times, Below}
use Rattle.program_lines.specs.Scopes.{NameScope}
use Rattle.program_lines.specs.Places.{Place, Common, FreshName, OperandWord, LocationWord, AssignedRegister, KnownRegister, FunctionName, ParameterName, Sign, Exactly, Value, Plain, OfOperand, OfLocation, OfRegister, OfAssigned, OfSign, Nothing, WordMeans}
use Rattle.program_lines.specs.Table.{table, HasKeyword, wanted, optional, Says}
use Rattle.program_lines.specs.Grammar.{Item, Blank, ItemMeans, number_if_there, expression_values}
use Rattle.program_lines.specs.Faults.{WordsFault}
use Rattle.program_lines.specs.Laws.{MeaningOrFault}
use Rattle.program_lines.proofs.Outcomes.{clear}
use Rattle.program_lines.proofs.Once.{register_in, named_in, operand_in, location_in, number_in, name_in, monoid_in, count_in, expression_in, first_of_values, item_by}
use Rattle.program_lines.proofs.Readings.{word_reading}

-- ---- keywords

keyword_known_or_not : (version : Version) (keyword : Keyword) → OrNot (HasKeyword version keyword)
keyword_known_or_not One (begin.Access kind.Bump) = inr (λ t. t)
keyword_known_or_not Two (begin.Access kind.Bump) = inl tt
keyword_known_or_not One begin.ParallelFor = inr (λ t. t)
keyword_known_or_not Two begin.ParallelFor = inl tt
keyword_known_or_not version (begin.Access kind) = inl tt
keyword_known_or_not version keyword = inl tt

-- ---- the form of values in their places

abbrev sign_in : Value → Operator
sign_in (OfSign operator) = operator
sign_in value = Plus

-- a value in the form that the place gives it
abbrev formed : Place → Value → Value
formed (Common (trace.Number low high)) value = Plain (trace.OfNumber (number_in value))
formed (Common trace.ReducerName) value = Plain (trace.OfNumber (number_in value))
formed (Common trace.MonoidWord) value = Plain (trace.OfMonoid (monoid_in value))
formed (Common place) value = value
formed FreshName value = Plain (trace.OfName (name_in value))
formed OperandWord value = OfOperand (operand_in value)
formed LocationWord value = OfLocation (location_in value)
formed AssignedRegister value = OfAssigned (register_in value) (named_in value)
formed KnownRegister value = OfRegister (register_in value)
formed FunctionName value = Plain (trace.OfNumber (number_in value))
formed ParameterName value = Plain (trace.OfName (name_in value))
formed Sign value = OfSign (sign_in value)
formed (Exactly word) value = Nothing

abbrev all_formed : (places last : List Place) → List Value → List Value
all_formed = all_formed_by Nothing formed

module _ (scope : NameScope) where
  common_formed : (place : trace.Place) (word : List ℕ) (value : trace.Value) → trace.WordMeans scope.known place word value → Plain value ≡ formed (Common place) (Plain value)
  common_formed (trace.Number low high) word (trace.OfNumber number) m = refl
  common_formed (trace.Number low high) word value m = absurd m
  common_formed trace.ReducerName word (trace.OfNumber number) m = refl
  common_formed trace.ReducerName word value m = absurd m
  common_formed trace.MonoidWord word (trace.OfMonoid monoid) m = refl
  common_formed trace.MonoidWord word value m = absurd m
  common_formed trace.FreshName word value m = refl
  common_formed trace.Cell word value m = refl
  common_formed trace.Mark word value m = refl

  word_formed : (place : Place) (word : List ℕ) (value : Value) → WordMeans scope place word value → value ≡ formed place value
  word_formed (Common place) word (Plain value) m = common_formed place word value m
  word_formed FreshName word (Plain (trace.OfName name)) m = refl
  word_formed OperandWord word (OfOperand operand) m = refl
  word_formed LocationWord word (OfLocation location) m = refl
  word_formed AssignedRegister word (OfAssigned register named) m = refl
  word_formed KnownRegister word (OfRegister register) m = refl
  word_formed FunctionName word (Plain (trace.OfNumber number)) m = refl
  word_formed ParameterName word (Plain (trace.OfName name)) m = refl
  word_formed Sign word (OfSign operator) m = refl
  word_formed (Exactly other) word Nothing m = refl
  word_formed place word value m = absurd m

  -- ---- from values to items

  said_as : (ws : List (List ℕ)) (keyword : Keyword) (values : List Value) → Says scope ws keyword values → values ≡ all_formed (wanted keyword) (optional keyword) values
  said_as ws keyword values says = line_formed Nothing formed (WordMeans scope) word_formed table scope.known.version ws keyword values says

  counted : (values : List Value) → all_formed [] (Common (trace.Number 1 most_cells) ∷ []) values ≡ number_if_there (count_in values)
  counted [] = refl
  counted (value ∷ values) = refl

  -- an operand, and a sign with another where they are there
  expressed : (values : List Value) → values ≡ all_formed (OperandWord ∷ []) (Sign ∷ OperandWord ∷ []) values → values ≡ expression_values (expression_in values)
  expressed [] e = absurd (cc)
  expressed (left ∷ []) e = e
  expressed (left ∷ sign ∷ []) e = absurd (cc)
  expressed (left ∷ OfSign Plus ∷ right ∷ []) e = e
  expressed (left ∷ OfSign Minus ∷ right ∷ []) e = e
  expressed (left ∷ OfSign Times ∷ right ∷ []) e = e
  expressed (left ∷ OfSign Below ∷ right ∷ []) e = e
  expressed (left ∷ Plain value ∷ right ∷ []) e = absurd (cc)
  expressed (left ∷ OfOperand operand ∷ right ∷ []) e = absurd (cc)
  expressed (left ∷ OfLocation location ∷ right ∷ []) e = absurd (cc)
  expressed (left ∷ OfRegister register ∷ right ∷ []) e = absurd (cc)
  expressed (left ∷ OfAssigned register named ∷ right ∷ []) e = absurd (cc)
  expressed (left ∷ Nothing ∷ right ∷ []) e = absurd (cc)
  expressed (left ∷ sign ∷ right ∷ value ∷ values) e = absurd (cc)

  let_formed : (values : List Value) → values ≡ all_formed (wanted begin.Let) (optional begin.Let) values →
      values ≡ OfAssigned (register_in (first_of_values values)) (named_in (first_of_values values)) ∷ Nothing ∷ expression_values (expression_in (behind_first (behind_first values)))
  let_formed [] e = absurd (cc)
  let_formed (first ∷ []) e = absurd (cc)
  let_formed (first ∷ second ∷ values) e =
      let same : values ≡ all_formed (OperandWord ∷ []) (Sign ∷ OperandWord ∷ []) values = cc in
      e ∙ ap (λ (vs : List Value). OfAssigned (register_in first) (named_in first) ∷ Nothing ∷ vs) (sym same ∙ expressed values same)

  -- what a keyword and values of its places say
  item_said : (at : ℕ) (ws : List (List ℕ)) (keyword : Keyword) (values : List Value) → Says scope ws keyword values → ItemMeans at scope ws (item_by at keyword values)
  item_said at ws begin.Mem values says =
      subst (λ (vs : List Value). Says scope ws begin.Mem vs)
      (said_as ws begin.Mem values says ∙ ap (λ (vs : List Value). Plain (trace.OfName (name_in (first_of_values values))) ∷ vs) (counted (behind_first values))) says
  item_said at ws begin.Reducer values says = subst (λ (vs : List Value). Says scope ws begin.Reducer vs) (said_as ws begin.Reducer values says) says
  item_said at ws begin.Func values says = subst (λ (vs : List Value). Says scope ws begin.Func vs) (said_as ws begin.Func values says) says
  item_said at ws begin.Let values says =
      (tt, refl, subst (λ (vs : List Value). Says scope ws begin.Let vs) (let_formed values (said_as ws begin.Let values says)) says)
  item_said at ws (begin.Access kind.Read) values says =
      (tt, refl, subst (λ (vs : List Value). Says scope ws (begin.Access kind.Read) vs) (said_as ws (begin.Access kind.Read) values says) says)
  item_said at ws (begin.Access kind.Get) values says =
      (tt, refl, subst (λ (vs : List Value). Says scope ws (begin.Access kind.Get) vs) (said_as ws (begin.Access kind.Get) values says) says)
  item_said at ws (begin.Access kind.Write) values says =
      (refl, refl, subst (λ (vs : List Value). Says scope ws (begin.Access kind.Write) vs) (said_as ws (begin.Access kind.Write) values says) says)
  item_said at ws (begin.Access kind.Bump) values says =
      (refl, refl, subst (λ (vs : List Value). Says scope ws (begin.Access kind.Bump) vs) (said_as ws (begin.Access kind.Bump) values says) says)
  item_said at ws (begin.Access kind.Update) values says =
      (refl, refl, subst (λ (vs : List Value). Says scope ws (begin.Access kind.Update) vs) (said_as ws (begin.Access kind.Update) values says) says)
  item_said at ws (begin.Access kind.Put) values says =
      (refl, refl, subst (λ (vs : List Value). Says scope ws (begin.Access kind.Put) vs) (said_as ws (begin.Access kind.Put) values says) says)
  item_said at ws begin.Spawn values says = (refl, refl, subst (λ (vs : List Value). Says scope ws begin.Spawn vs) (said_as ws begin.Spawn values says) says)
  item_said at ws begin.Call values says = (refl, refl, subst (λ (vs : List Value). Says scope ws begin.Call vs) (said_as ws begin.Call values says) says)
  item_said at ws begin.Sync values says = (refl, refl, subst (λ (vs : List Value). Says scope ws begin.Sync vs) (said_as ws begin.Sync values says) says)
  item_said at ws begin.ParallelFor values says =
      (tt, refl, subst (λ (vs : List Value). Says scope ws begin.ParallelFor vs) (said_as ws begin.ParallelFor values says) says)
  item_said at ws begin.If values says = subst (λ (vs : List Value). Says scope ws begin.If vs) (said_as ws begin.If values says) says
  item_said at ws begin.Else values says = subst (λ (vs : List Value). Says scope ws begin.Else vs) (said_as ws begin.Else values says) says
  item_said at ws begin.End values says = subst (λ (vs : List Value). Says scope ws begin.End vs) (said_as ws begin.End values says) says

-- ---- lines

-- words say something, or have a lowest cause
abbrev pub Told : ℕ → NameScope → List (List ℕ) → Type 0
Told at scope ws = ((item : Item) × ItemMeans at scope ws item) ⊎ ((why : Cause) × IsLowest (WordsFault scope ws) why)

pub line_told : MeaningOrFault
line_told at scope [] few = inl (Blank, refl)
line_told at scope (word ∷ arguments) few = go (line_told_by (clear scope) (word_reading scope few) scope.known.version (keyword_known_or_not scope.known.version) word arguments)
  where
    go : ToldBy (clear scope) (word_reading scope few) scope.known.version (keyword_known_or_not scope.known.version) (word ∷ arguments) → Told at scope (word ∷ arguments)
    go (inl (keyword, values, says)) = inl (item_by at keyword values, item_said scope at (word ∷ arguments) keyword values says)
    go (inr (cause, f)) = inr (cause, f)
