-- What is wrong with the words of a line that says nothing.
use Rattle.std.specs.Prelude.{◌≡◌, ℕ, ◌≤◌, true, false, ◌⊎◌, None, List, length}
use Rattle.text_words.specs.declared.fault.Cause.{Cause}
use Rattle.text_words.specs.declared.fault.Cause.TheVariants.{BadWord, BadNumber, UnknownName, TwiceNamed, TooMany}
use Rattle.text_words.specs.Text.{IsName, IsNumberIn, BeginsWithDigit}
use Rattle.text_words.specs.Limits.{max_value}
use Rattle.text_words.specs.Names.{element_word}
use Rattle.trace_text.specs.Faults.{IsUndeclared, WordFault as CommonFault}
use Rattle.trace_text.specs.LineGrammar as line
use Rattle.program_lines.specs.declared.operator.Operator.{Operator}
use Rattle.program_lines.specs.Scopes.{NameScope, max_registers, register_named, function_named, IsFresh}
use Rattle.program_lines.specs.Places.{Place, Common, FreshName, OperandWord, LocationWord, AssignedRegister, KnownRegister}
use Rattle.program_lines.specs.Places.{FunctionName, ParameterName, Sign, Exactly, IsRegisterName, sign_spelling}
use Rattle.program_lines.specs.Table.{table}

-- ---- words in their places

-- A number or a name.
abbrev pub HasOperandShape : List ℕ → Type 0
HasOperandShape word = IsName word ⊎ BeginsWithDigit word

abbrev pub HasIndexedShape : List ℕ → List ℕ → List ℕ → Type 0
HasIndexedShape word name index = (word ≡ element_word name index) × IsName name × HasOperandShape index

abbrev pub HasShape : Place → List ℕ → Type 0
HasShape FreshName word = IsName word
HasShape OperandWord word = HasOperandShape word
HasShape LocationWord word = IsName word ⊎ ((name : List ℕ) × (index : List ℕ) × HasIndexedShape word name index)
HasShape AssignedRegister word = IsRegisterName word
HasShape KnownRegister word = IsName word
HasShape FunctionName word = IsName word
HasShape ParameterName word = IsRegisterName word
HasShape Sign word = (operator : Operator) × (word ≡ sign_spelling operator)
HasShape (Exactly other) word = word ≡ other
HasShape place word = Unit {0}

-- It begins with a digit and is no number.
abbrev pub IsNoNumber : List ℕ → Type 0
IsNoNumber word = BeginsWithDigit word × ((n : ℕ) → IsNumberIn 0 max_value word n → ⊥)

-- It is a name, and no register has it.
abbrev pub IsNoRegister : List (List ℕ) → List ℕ → Type 0
IsNoRegister registers word = IsName word × (register_named registers word ≡ None)

abbrev pub IsBadNumber : Place → List ℕ → Type 0
IsBadNumber OperandWord word = IsNoNumber word
IsBadNumber LocationWord word = (name : List ℕ) × (index : List ℕ) × HasIndexedShape word name index × IsNoNumber index
IsBadNumber place word = ⊥

abbrev pub IsUnknownName : NameScope → Place → List ℕ → Type 0
IsUnknownName scope OperandWord word = IsNoRegister scope.registers word
IsUnknownName scope LocationWord word =
    (IsName word × IsUndeclared scope.known.mems word false)
    ⊎ ((name : List ℕ) × (index : List ℕ) × HasIndexedShape word name index
    × (IsUndeclared scope.known.mems name true ⊎ IsNoRegister scope.registers index))
IsUnknownName scope KnownRegister word = IsNoRegister scope.registers word
IsUnknownName scope FunctionName word = IsName word × (function_named scope.functions word ≡ None)
IsUnknownName scope place word = ⊥

abbrev pub IsTwiceNamed : NameScope → Place → List ℕ → Type 0
IsTwiceNamed scope FreshName word = IsFresh scope word → ⊥
IsTwiceNamed scope place word = ⊥

-- A new register, for which there is no room.
abbrev pub HasNoRoom : NameScope → Place → List ℕ → Type 0
HasNoRoom scope AssignedRegister word = (register_named scope.registers word ≡ None) × (max_registers ≤ length scope.registers)
HasNoRoom scope place word = ⊥

-- What is wrong with a word in its place.
abbrev pub WordFault : NameScope → Place → List ℕ → Cause → Type 0
WordFault scope (Common place) word cause = CommonFault scope.known place word cause
WordFault scope place word BadWord = HasShape place word → ⊥
WordFault scope place word BadNumber = IsBadNumber place word
WordFault scope place word UnknownName = IsUnknownName scope place word
WordFault scope place word TwiceNamed = IsTwiceNamed scope place word
WordFault scope place word TooMany = HasNoRoom scope place word
WordFault scope place word cause = ⊥

-- What is wrong with the words of a line.
abbrev pub WordsFault : NameScope → List (List ℕ) → Cause → Type 0
WordsFault scope = line.WordsFault (WordFault scope) table scope.known.version
