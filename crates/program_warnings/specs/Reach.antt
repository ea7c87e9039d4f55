-- Which functions of a program are reached from `main`.
use Rattle.std.specs.Prelude.{ℕ, suc, ◌≡◌, ◌+◌, ◌<◌, ◌==◌, ◌↔◌, Bool, true, false, ◌&&◌, ◌||◌, IsTrue, Option, Some, None, List, [], ◌∷◌, length, slice_get, unwrap_or}
use Rattle.std.specs.List.{Contains, list_any}
use Rattle.model_bodies.specs.declared.statement.Statement.{Statement}
use Rattle.model_bodies.specs.declared.statement.Statement.TheVariants.{Spawn, Call, ParallelFor, Put}
use Rattle.model_bodies.specs.Codes.{Code}

-- the function that a statement spawns or calls
abbrev pub function_of : Statement → Option ℕ
function_of (Spawn line function argument) = Some function
function_of (Call line function argument) = Some function
function_of (ParallelFor line register count function) = Some function
function_of statement = None

-- A statement of the body spawns or calls the function.
pub record BodyBegins (body : List Statement) (callee : ℕ) : Type 0 where
  pub statement : Statement
  pub stands : Contains body statement
  pub begins : function_of statement ≡ Some callee

-- One function spawns or calls the other.
pub record Begins (functions : List Code) (caller callee : ℕ) : Type 0 where
  pub code : Code
  pub known : slice_get functions caller ≡ Some code
  pub begins : BodyBegins code.body callee

-- The function is reached: it is `main`, or one that is reached spawns or calls it.
pub data IsReached (functions : List Code) (main : ℕ) : ℕ → Type 0 where
  root : IsReached functions main main
  onward : {caller callee : ℕ} → IsReached functions main caller → Begins functions caller callee → IsReached functions main callee

-- These are the functions that are reached.
abbrev pub AreReached : List Code → (main : ℕ) → (is_reached : ℕ → Bool) → Type 0
AreReached functions main is_reached = (number : ℕ) → number < length functions → IsTrue (is_reached number) ↔ IsReached functions main number

-- the reducer that a statement puts
abbrev pub reducer_put : Statement → Option ℕ
reducer_put (Put line reducer value) = Some reducer
reducer_put statement = None

-- A statement of a function that is reached puts the reducer.
pub record IsPut (functions : List Code) (main : ℕ) (reducer : ℕ) : Type 0 where
  pub function : ℕ
  pub reached : IsReached functions main function
  pub code : Code
  pub known : slice_get functions function ≡ Some code
  pub statement : Statement
  pub stands : Contains code.body statement
  pub puts : reducer_put statement ≡ Some reducer

-- These are the reducers that are put where so many are declared.
abbrev pub ArePut : List Code → (main : ℕ) → (reducers : ℕ) → (is_put : ℕ → Bool) → Type 0
ArePut functions main reducers is_put = (reducer : ℕ) → reducer < reducers → IsTrue (is_put reducer) ↔ IsPut functions main reducer

-- ---- marks

-- whether there is a mark at this number
abbrev pub is_marked : List Bool → ℕ → Bool
is_marked marks number = unwrap_or (slice_get marks number) false

-- how many numbers have no mark
abbrev pub unmarked_count : List Bool → ℕ
unmarked_count [] = 0
unmarked_count (true ∷ marks) = unmarked_count marks
unmarked_count (false ∷ marks) = suc (unmarked_count marks)

-- a statement of the body spawns or calls no function that has no mark
abbrev pub IsBodyClosed : List Statement → (marks : List Bool) → Type 0
IsBodyClosed body marks = (callee : ℕ) → BodyBegins body callee → slice_get marks callee ≡ Some false → ⊥

-- a function that has a mark spawns or calls none that has no mark
abbrev pub IsClosed : List Code → (marks : List Bool) → Type 0
IsClosed functions marks = (caller callee : ℕ) → slice_get marks caller ≡ Some true → Begins functions caller callee → slice_get marks callee ≡ Some false → ⊥

-- It has no mark, and a statement of the body spawns or calls it.
pub record IsNextIn (body : List Statement) (marks : List Bool) (callee : ℕ) : Type 0 where
  pub begins : BodyBegins body callee
  pub unmarked : slice_get marks callee ≡ Some false

-- It has no mark, and a function that has one spawns or calls it.
pub record IsNext (functions : List Code) (marks : List Bool) (callee : ℕ) : Type 0 where
  pub caller : ℕ
  pub marked : slice_get marks caller ≡ Some true
  pub begins : Begins functions caller callee
  pub unmarked : slice_get marks callee ≡ Some false

-- whether one of these functions, numbered from this number on, is reached and puts the reducer
abbrev pub puts : (reducer : ℕ) → Statement → Bool
puts reducer (Put line other value) = other == reducer
puts reducer statement = false

abbrev pub puts_from : (is_reached : ℕ → Bool) → (reducer number : ℕ) → List Code → Bool
puts_from is_reached reducer number [] = false
puts_from is_reached reducer number (code ∷ codes) =
    (is_reached number && list_any (puts reducer) code.body) || puts_from is_reached reducer (number + 1) codes
