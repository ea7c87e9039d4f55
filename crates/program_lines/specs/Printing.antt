-- The plain words of statements: one for each value, numbers without leading zeros.
use Rattle.std.specs.Prelude.{◌≡◌, ℕ, zero, suc, Option, Some, None, List, [], ◌∷◌, ◌++◌, slice_index_or, codes}
use Rattle.std.specs.List.{find}
use Rattle.std.specs.Fmt.{decimal}
use Rattle.text_words.specs.declared.value.Version.{Version}
use Rattle.text_words.specs.declared.value.Mem.{Mem}
use Rattle.text_words.specs.declared.value.Reducer.{Reducer}
use Rattle.text_words.specs.Names.{element_word}
use Rattle.trace_text.specs.LineGrammar as line
use Rattle.trace_text.specs.Shapes.{has_cell, name_of_cell}
use Rattle.trace_text.specs.Lines.{OfName, OfNumber, OfMonoid}
use Rattle.trace_text.specs.Printing.{plain_word as common_word, known_of}
use Rattle.model_bodies.specs.declared.statement.Operand.{Operand}
use Rattle.model_bodies.specs.declared.statement.Operand.TheVariants.{Number, Held}
use Rattle.model_bodies.specs.declared.statement.Location.{Location}
use Rattle.model_bodies.specs.declared.statement.Location.TheVariants.{Cell, Element}
use Rattle.model_bodies.specs.declared.statement.Expression.{Expression}
use Rattle.model_bodies.specs.declared.statement.Expression.TheVariants.{Plain as PlainOperand, Sum, Difference, Product, Less}
use Rattle.model_bodies.specs.declared.statement.Statement.{Statement}
use Rattle.model_bodies.specs.declared.statement.Statement.TheVariants.{Spawn, Call, ParallelFor}
use Rattle.program_lines.specs.declared.keyword.Keyword.{Keyword}
use Rattle.program_lines.specs.declared.keyword.Keyword.TheVariants as word
use Rattle.program_lines.specs.Scopes.{NameScope, ok_word}
use Rattle.program_lines.specs.Places.{Place, Common, FunctionName, Exactly, Value, Plain, OfOperand}
use Rattle.program_lines.specs.Places.{OfLocation, OfRegister, OfAssigned, OfSign, sign_spelling}
use Rattle.program_lines.specs.Table.{spelling, wanted, optional}
use Rattle.program_lines.specs.Grammar.{Item, Blank, Declared, Reduces, Begins, Does, Decides, Otherwise}
use Rattle.program_lines.specs.Grammar.{Ends, keyword_of_statement, statement_values, number_if_there}

-- ---- words

-- The name of the register with this number.
abbrev pub name_of_register : List (List ℕ) → ℕ → List ℕ
name_of_register registers zero = ok_word
name_of_register registers (suc place) = slice_index_or registers place []

abbrev pub name_of_function : List (List ℕ) → ℕ → List ℕ
name_of_function functions number = slice_index_or functions number []

abbrev pub operand_word : List (List ℕ) → Operand → List ℕ
operand_word registers (Number number) = decimal number
operand_word registers (Held register) = name_of_register registers register.index

abbrev pub memory_name : Option Mem → List ℕ
memory_name None = []
memory_name (Some mem) = mem.name

-- The name of the array that has the cell with this number.
abbrev pub name_of_array : List Mem → ℕ → List ℕ
name_of_array mems first = memory_name (find (has_cell first) mems)

abbrev pub location_word : List Mem → List (List ℕ) → Location → List ℕ
location_word mems registers (Cell cell) = name_of_cell mems cell
location_word mems registers (Element first count index) = element_word (name_of_array mems first) (operand_word registers index)

-- The word for a value in its place.
abbrev pub plain_word : NameScope → Place → Value → List ℕ
plain_word scope (Common place) (Plain value) = common_word scope.known place value
plain_word scope FunctionName (Plain (OfNumber number)) = name_of_function scope.functions number
plain_word scope place (Plain (OfName name)) = name
plain_word scope place (OfOperand operand) = operand_word scope.registers operand
plain_word scope place (OfLocation location) = location_word scope.known.mems scope.registers location
plain_word scope place (OfRegister register) = name_of_register scope.registers register.index
plain_word scope place (OfAssigned register named) = name_of_register scope.registers register.index
plain_word scope place (OfSign operator) = sign_spelling operator
plain_word scope (Exactly other) value = other
plain_word scope place value = []

-- The words for values in the places of a line.
abbrev pub plain_words : NameScope → (places last : List Place) → List Value → List (List ℕ)
plain_words scope = line.plain_words (plain_word scope)

abbrev pub words_for : NameScope → Keyword → List Value → List (List ℕ)
words_for scope keyword values = spelling keyword ∷ plain_words scope (wanted keyword) (optional keyword) values

-- The words of a statement behind its keyword, where the scope has all registers of its function.
abbrev pub argument_words : NameScope → Statement → List (List ℕ)
argument_words scope statement =
    plain_words scope (wanted (keyword_of_statement statement))
    (optional (keyword_of_statement statement)) (statement_values statement None)

abbrev pub statement_words : NameScope → Statement → List (List ℕ)
statement_words scope statement = words_for scope (keyword_of_statement statement) (statement_values statement None)

-- The words of an expression.
abbrev pub expression_words : List (List ℕ) → Expression → List (List ℕ)
expression_words registers (PlainOperand operand) = operand_word registers operand ∷ []
expression_words registers (Sum left right) = operand_word registers left ∷ codes "+" ∷ operand_word registers right ∷ []
expression_words registers (Difference left right) = operand_word registers left ∷ codes "-" ∷ operand_word registers right ∷ []
expression_words registers (Product left right) = operand_word registers left ∷ codes "*" ∷ operand_word registers right ∷ []
expression_words registers (Less left right) = operand_word registers left ∷ codes "<" ∷ operand_word registers right ∷ []

-- The words of what a line says.
abbrev pub item_words : NameScope → Item → List (List ℕ)
item_words scope Blank = []
item_words scope (Declared name length) = words_for scope word.Mem (Plain (OfName name) ∷ number_if_there length)
item_words scope (Reduces name monoid) = words_for scope word.Reducer (Plain (OfName name) ∷ Plain (OfMonoid monoid) ∷ [])
item_words scope (Begins name parameter) = words_for scope word.Func (Plain (OfName name) ∷ Plain (OfName parameter) ∷ [])
item_words scope (Does statement named) = statement_words scope statement
item_words scope (Decides register) = words_for scope word.If (OfRegister register ∷ [])
item_words scope Otherwise = words_for scope word.Else []
item_words scope Ends = words_for scope word.End []

-- ---- scopes that are printed

-- The scope of the statements of a function with these registers.
abbrev pub printed_scope : Version → List Mem → List Reducer → (functions registers : List (List ℕ)) → NameScope
printed_scope version mems reducers functions registers =
    record { known = known_of version mems reducers; functions = functions; begun = 0; registers = registers }

-- This is the name of the function that the statement names, if it names one.
abbrev pub IsNamedFunction : List (List ℕ) → Statement → List ℕ → Type 0
IsNamedFunction functions (Spawn line function argument) name = name_of_function functions function ≡ name
IsNamedFunction functions (Call line function argument) name = name_of_function functions function ≡ name
IsNamedFunction functions (ParallelFor line register count function) name = name_of_function functions function ≡ name
IsNamedFunction functions statement name = Unit {0}

-- The registers that are known behind the line.
abbrev pub registers_behind : NameScope → Item → List (List ℕ)
registers_behind scope (Begins name parameter) = parameter ∷ []
registers_behind scope (Does statement (Some name)) = scope.registers ++ name ∷ []
registers_behind scope item = scope.registers

-- The scope in which a line is printed: its function has these registers, and names more on later lines.
abbrev pub scope_behind : NameScope → Item → List (List ℕ) → NameScope
scope_behind scope item more = record {
  known = scope.known;
  functions = scope.functions;
  begun = 0;
  registers = registers_behind scope item ++ more;
}
