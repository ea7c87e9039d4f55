-- What a place of a line wants, and what a word means there.
use Rattle.std.specs.Prelude.{◌≡◌, ◌≢◌, ℕ, ◌+◌, true, Option, Some, None, List, length, codes}
use Rattle.text_words.specs.Text.{IsName, IsNumberIn}
use Rattle.text_words.specs.Limits.{max_value}
use Rattle.text_words.specs.Names.{SingleMeans, IsDeclared, element_word}
use Rattle.text_words.specs.declared.value.Mem.{Mem}
use Rattle.trace_text.specs.Lines as trace
use Rattle.program_lines.specs.declared.operator.Operator.{Operator as OperatorSign}
use Rattle.program_lines.specs.declared.operator.Operator.TheVariants.{Plus, Minus, Times, Below}
use Rattle.model_bodies.specs.declared.statement.Register.{Register}
use Rattle.model_bodies.specs.declared.statement.Operand.{Operand}
use Rattle.model_bodies.specs.declared.statement.Operand.TheVariants.{Number, Held}
use Rattle.model_bodies.specs.declared.statement.Location.{Location}
use Rattle.model_bodies.specs.declared.statement.Location.TheVariants.{Cell, Element}
use Rattle.program_lines.specs.Scopes.{NameScope, ok_word, register_named, function_named, IsFresh}

-- A place as in traces, a name for a memory, a reducer or a function, an operand, a location, the register that is assigned, a register
-- that decides, the name of a function, the name of a parameter, a sign between operands, and one word only.
pub data Place : Type 0 where
  Common : (place : trace.Place) → Place
  FreshName : Place
  OperandWord : Place
  LocationWord : Place
  AssignedRegister : Place
  KnownRegister : Place
  FunctionName : Place
  ParameterName : Place
  Sign : Place
  Exactly : (word : List ℕ) → Place

-- What a word means in its place. A register that is assigned has a name where it is new.
pub data Value : Type 0 where
  Plain : (value : trace.Value) → Value
  OfOperand : (operand : Operand) → Value
  OfLocation : (location : Location) → Value
  OfRegister : (register : Register) → Value
  OfAssigned : (register : Register) (named : Option (List ℕ)) → Value
  OfSign : (operator : OperatorSign) → Value
  Nothing : Value

abbrev pub sign_spelling : OperatorSign → List ℕ
sign_spelling Plus = codes "+"
sign_spelling Minus = codes "-"
sign_spelling Times = codes "*"
sign_spelling Below = codes "<"

-- A name that a register other than `ok` may have.
abbrev pub IsRegisterName : List ℕ → Type 0
IsRegisterName word = IsName word × (word ≢ ok_word)

-- The word is the name of a register that is known.
abbrev pub RegisterMeans : List (List ℕ) → List ℕ → Register → Type 0
RegisterMeans registers word register = IsName word × (register_named registers word ≡ Some register.index)

abbrev pub OperandMeans : List (List ℕ) → List ℕ → Operand → Type 0
OperandMeans registers word (Number number) = IsNumberIn 0 max_value word number
OperandMeans registers word (Held register) = RegisterMeans registers word register

-- The name names an array, and the index is an operand. It is taken modulo the length when the access is made.
abbrev pub ElementMeans : NameScope → (name index : List ℕ) → (first count : ℕ) → Operand → Type 0
ElementMeans scope name index first count operand =
    IsName name
    × ((mem : Mem) × IsDeclared scope.known.mems name true mem × (first ≡ mem.first) × (count ≡ mem.cells))
    × OperandMeans scope.registers index operand

-- The name of a memory of one cell, or the name of an array and an operand in brackets.
abbrev pub LocationMeans : NameScope → List ℕ → Location → Type 0
LocationMeans scope word (Cell cell) = SingleMeans scope.known.mems word cell
LocationMeans scope word (Element first count operand) =
    (name : List ℕ) × (index : List ℕ) × (word ≡ element_word name index) × ElementMeans scope name index first count operand

-- The register is known, or it is new and has the next number.
abbrev pub AssignedMeans : List (List ℕ) → List ℕ → Register → Option (List ℕ) → Type 0
AssignedMeans registers word register None = IsRegisterName word × (register_named registers word ≡ Some register.index)
AssignedMeans registers word register (Some name) =
    (name ≡ word) × IsRegisterName word × (register_named registers word ≡ None) × (register.index ≡ length registers + 1)

abbrev pub WordMeans : NameScope → Place → List ℕ → Value → Type 0
WordMeans scope (Common place) word (Plain value) = trace.WordMeans scope.known place word value
WordMeans scope FreshName word (Plain (trace.OfName name)) = (name ≡ word) × IsName word × IsFresh scope word
WordMeans scope OperandWord word (OfOperand operand) = OperandMeans scope.registers word operand
WordMeans scope LocationWord word (OfLocation location) = LocationMeans scope word location
WordMeans scope AssignedRegister word (OfAssigned register named) = AssignedMeans scope.registers word register named
WordMeans scope KnownRegister word (OfRegister register) = RegisterMeans scope.registers word register
WordMeans scope FunctionName word (Plain (trace.OfNumber number)) = IsName word × (function_named scope.functions word ≡ Some number)
WordMeans scope ParameterName word (Plain (trace.OfName name)) = (name ≡ word) × IsRegisterName word
WordMeans scope Sign word (OfSign operator) = word ≡ sign_spelling operator
WordMeans scope (Exactly other) word Nothing = word ≡ other
WordMeans scope place word value = ⊥
