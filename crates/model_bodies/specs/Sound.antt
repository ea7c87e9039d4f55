-- Programs whose names and places are right.
use Rattle.std.specs.Prelude.{◌≡◌, ℕ, ◌+◌, ◌<◌, ◌^◌, Bool, true, ◌&&◌, nat_lt, nat_le, IsTrue, List, Some, length}
use Rattle.std.specs.List.{All}
use Rattle.model_bodies.specs.declared.statement.Operand.{Operand}
use Rattle.model_bodies.specs.declared.statement.Operand.TheVariants.{Number, Held}
use Rattle.model_bodies.specs.declared.statement.Expression.{Expression}
use Rattle.model_bodies.specs.declared.statement.Expression.TheVariants.{Plain, Sum, Difference, Product, Less}
use Rattle.model_bodies.specs.declared.statement.Location.{Location}
use Rattle.model_bodies.specs.declared.statement.Location.TheVariants.{Cell, Element}
use Rattle.model_bodies.specs.declared.statement.Statement.{Statement}
use Rattle.model_bodies.specs.declared.statement.Statement.TheVariants.{Let, Read, Write, Bump, Update, Put, Get, Spawn, Call, ParallelFor}
use Rattle.model_bodies.specs.Codes.{Code, main_of}
use Rattle.model_bodies.specs.Bodies.{IsLinked, IsDivided, IsBalanced}

abbrev pub max_functions : ℕ
max_functions = 1000

abbrev pub max_statements : ℕ
max_statements = 100000

-- The cells are there.
abbrev pub is_located : ℕ → Location → Bool
is_located cells (Cell cell) = nat_lt cell cells
is_located cells (Element first count index) = nat_lt 0 count && nat_le (first + count) cells

-- What a statement names is there: cells, reducers and functions, of which there are so many.
abbrev pub is_within : (cells reducers functions : ℕ) → Statement → Bool
is_within cells reducers functions (Read line register location) = is_located cells location
is_within cells reducers functions (Write line location value) = is_located cells location
is_within cells reducers functions (Bump line location value) = is_located cells location
is_within cells reducers functions (Update line reducer value) = nat_lt reducer reducers
is_within cells reducers functions (Put line reducer value) = nat_lt reducer reducers
is_within cells reducers functions (Get line register reducer) = nat_lt reducer reducers
is_within cells reducers functions (Spawn line function argument) = nat_lt function functions
is_within cells reducers functions (Call line function argument) = nat_lt function functions
is_within cells reducers functions (ParallelFor line register count function) = nat_lt function functions
is_within cells reducers functions _ = true

-- An operand that is written as a number is one of 64 bits.
abbrev pub is_numbered : Operand → Bool
is_numbered (Number number) = nat_lt number (2 ^ 64)
is_numbered (Held register) = true

abbrev pub is_numbered_expression : Expression → Bool
is_numbered_expression (Plain operand) = is_numbered operand
is_numbered_expression (Sum left right) = is_numbered left && is_numbered right
is_numbered_expression (Difference left right) = is_numbered left && is_numbered right
is_numbered_expression (Product left right) = is_numbered left && is_numbered right
is_numbered_expression (Less left right) = is_numbered left && is_numbered right

abbrev pub is_numbered_location : Location → Bool
is_numbered_location (Cell cell) = true
is_numbered_location (Element first count index) = is_numbered index

-- The numbers that are written in a statement are of 64 bits.
abbrev pub has_numbers : Statement → Bool
has_numbers (Let line register value) = is_numbered_expression value
has_numbers (Read line register location) = is_numbered_location location
has_numbers (Write line location value) = is_numbered_location location && is_numbered value
has_numbers (Bump line location value) = is_numbered_location location && is_numbered value
has_numbers (Update line reducer value) = is_numbered value
has_numbers (Put line reducer value) = is_numbered value
has_numbers (Spawn line function argument) = is_numbered argument
has_numbers (Call line function argument) = is_numbered argument
has_numbers (ParallelFor line register count function) = is_numbered count
has_numbers _ = true

-- A body is sound: it is not too long, what it names is there, the numbers that are written in it are of 64 bits, each `if` and `else`
-- knows where the part behind it ends, the part behind an `else` is closed by an `end`, and each `if` has its `end`, each `else` and `end`
-- its `if`.
pub record IsSoundBody (cells reducers functions : ℕ) (body : List Statement) : Type 0 where
  pub few : length body < max_statements
  pub within : All (λ statement. IsTrue (is_within cells reducers functions statement)) body
  pub numbers : All (λ statement. IsTrue (has_numbers statement)) body
  pub linked : IsLinked body
  pub divided : IsDivided body
  pub balanced : IsBalanced body

-- A program is sound: its bodies are.
abbrev pub IsSound : (cells reducers : ℕ) → List Code → Type 0
IsSound cells reducers functions = All (λ code. IsSoundBody cells reducers (length functions) code.body) functions

-- The function with this number is `main`.
abbrev pub IsMain : List Code → ℕ → Type 0
IsMain functions main = main_of functions ≡ Some main
