-- What the lines of a program mean: a case for each kind of line.
use Rattle.std.specs.Prelude.{◌≡◌, ℕ, Option, Some, None, List, [], ◌∷◌}
use Rattle.model_accesses.specs.declared.kind.Kind.TheVariants as kind
use Rattle.model_reducers.specs.declared.monoid.Monoid.{Monoid}
use Rattle.trace_text.specs.Lines.{OfName, OfNumber, OfMonoid}
use Rattle.program_lines.specs.declared.keyword.Keyword.{Keyword}
use Rattle.program_lines.specs.declared.keyword.Keyword.TheVariants as word
use Rattle.program_lines.specs.declared.operator.Operator.TheVariants.{Plus, Minus, Times, Below}
use Rattle.model_bodies.specs.declared.statement.Register.{Register}
use Rattle.model_bodies.specs.declared.statement.Expression.{Expression}
use Rattle.model_bodies.specs.declared.statement.Expression.TheVariants.{Plain as PlainOperand, Sum, Difference, Product, Less}
use Rattle.model_bodies.specs.declared.statement.Statement.{Statement}
use Rattle.model_bodies.specs.declared.statement.Statement.TheVariants.{Let, Read, Write, Bump, Update, Put, Get}
use Rattle.model_bodies.specs.declared.statement.Statement.TheVariants.{Spawn, Call, Sync, ParallelFor, If, Else, End}
use Rattle.model_bodies.specs.Lines.{line_of}
use Rattle.program_lines.specs.Scopes.{NameScope}
use Rattle.program_lines.specs.Places.{Value, Plain, OfOperand, OfLocation, OfRegister, OfAssigned, OfSign, Nothing}
use Rattle.program_lines.specs.Table.{Says}

-- What a line says: nothing, a memory of one cell or of so many, a reducer, the begin of a function, a statement and the register that it
-- is the first to name, an `if`, an `else` or an `end`.
pub data Item : Type 0 where
  Blank : Item
  Declared : (name : List ℕ) (length : Option ℕ) → Item
  Reduces : (name : List ℕ) (monoid : Monoid) → Item
  Begins : (name parameter : List ℕ) → Item
  Does : (statement : Statement) (named : Option (List ℕ)) → Item
  Decides : (register : Register) → Item
  Otherwise : Item
  Ends : Item

abbrev pub keyword_of_statement : Statement → Keyword
keyword_of_statement (Let line register value) = word.Let
keyword_of_statement (Read line register location) = word.Access kind.Read
keyword_of_statement (Write line location value) = word.Access kind.Write
keyword_of_statement (Bump line location value) = word.Access kind.Bump
keyword_of_statement (Update line reducer value) = word.Access kind.Update
keyword_of_statement (Put line reducer value) = word.Access kind.Put
keyword_of_statement (Get line register reducer) = word.Access kind.Get
keyword_of_statement (Spawn line function argument) = word.Spawn
keyword_of_statement (Call line function argument) = word.Call
keyword_of_statement (Sync line) = word.Sync
keyword_of_statement (ParallelFor line register count function) = word.ParallelFor
keyword_of_statement (If line register otherwise) = word.If
keyword_of_statement (Else line after) = word.Else
keyword_of_statement (End line) = word.End

-- What stands behind `=`.
abbrev pub expression_values : Expression → List Value
expression_values (PlainOperand operand) = OfOperand operand ∷ []
expression_values (Sum left right) = OfOperand left ∷ OfSign Plus ∷ OfOperand right ∷ []
expression_values (Difference left right) = OfOperand left ∷ OfSign Minus ∷ OfOperand right ∷ []
expression_values (Product left right) = OfOperand left ∷ OfSign Times ∷ OfOperand right ∷ []
expression_values (Less left right) = OfOperand left ∷ OfSign Below ∷ OfOperand right ∷ []

-- What the words behind the keyword mean, where this register is named for the first time.
abbrev pub statement_values : Statement → Option (List ℕ) → List Value
statement_values (Let line register value) named = OfAssigned register named ∷ Nothing ∷ expression_values value
statement_values (Read line register location) named = OfAssigned register named ∷ OfLocation location ∷ []
statement_values (Write line location value) named = OfLocation location ∷ OfOperand value ∷ []
statement_values (Bump line location value) named = OfLocation location ∷ OfOperand value ∷ []
statement_values (Update line reducer value) named = Plain (OfNumber reducer) ∷ OfOperand value ∷ []
statement_values (Put line reducer value) named = Plain (OfNumber reducer) ∷ OfOperand value ∷ []
statement_values (Get line register reducer) named = OfAssigned register named ∷ Plain (OfNumber reducer) ∷ []
statement_values (Spawn line function argument) named = Plain (OfNumber function) ∷ OfOperand argument ∷ []
statement_values (Call line function argument) named = Plain (OfNumber function) ∷ OfOperand argument ∷ []
statement_values (Sync line) named = []
statement_values (ParallelFor line register count function) named =
    OfAssigned register named ∷ OfOperand count ∷ Plain (OfNumber function) ∷ []
statement_values (If line register otherwise) named = OfRegister register ∷ []
statement_values (Else line after) named = []
statement_values (End line) named = []

-- It is a statement that a line alone gives, and only one that assigns a register names a new one.
abbrev pub CanName : Statement → Option (List ℕ) → Type 0
CanName (Let line register value) named = Unit {0}
CanName (Read line register location) named = Unit {0}
CanName (Get line register reducer) named = Unit {0}
CanName (ParallelFor line register count function) named = Unit {0}
CanName (If line register otherwise) named = ⊥
CanName (Else line after) named = ⊥
CanName (End line) named = ⊥
CanName statement named = named ≡ None

-- An optional number.
abbrev pub number_if_there : Option ℕ → List Value
number_if_there None = []
number_if_there (Some number) = Plain (OfNumber number) ∷ []

-- What the words of the line with the number `at` say in their scope.
abbrev pub ItemMeans : ℕ → NameScope → List (List ℕ) → Item → Type 0
ItemMeans at scope ws Blank = ws ≡ []
ItemMeans at scope ws (Declared name length) = Says scope ws word.Mem (Plain (OfName name) ∷ number_if_there length)
ItemMeans at scope ws (Reduces name monoid) = Says scope ws word.Reducer (Plain (OfName name) ∷ Plain (OfMonoid monoid) ∷ [])
ItemMeans at scope ws (Begins name parameter) = Says scope ws word.Func (Plain (OfName name) ∷ Plain (OfName parameter) ∷ [])
ItemMeans at scope ws (Does statement named) =
    CanName statement named × (line_of statement ≡ at) × Says scope ws (keyword_of_statement statement) (statement_values statement named)
ItemMeans at scope ws (Decides register) = Says scope ws word.If (OfRegister register ∷ [])
ItemMeans at scope ws Otherwise = Says scope ws word.Else []
ItemMeans at scope ws Ends = Says scope ws word.End []
