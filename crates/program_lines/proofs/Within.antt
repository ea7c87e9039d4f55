-- What a statement names is there.
use Rattle.std.proofs.Common.{◌≡◌, ℕ, ◌+◌, ◌<◌, ◌≤◌, ◌∷◌, [], List, length, Bool, true, false, cond, arith}
use Rattle.std.specs.Prelude.{Option, Some, IsTrue}
use Rattle.std.specs.List.{All, position_from}
use Rattle.text_words.specs.declared.value.Mem.{Mem}
use Rattle.text_words.specs.Declarations.{cells_of}
use Rattle.trace_text.proofs.LineOutcomes.{first_means}
use Rattle.trace_text.specs.Lines as trace
use Rattle.text_words.specs.Names.{IsDeclared}
use Rattle.trace_text.specs.Shapes.{is_numbered}
use Rattle.trace_text.proofs.CellWords.{found_of_all}
use Rattle.trace_text.proofs.Kept.{ends_within}
use Rattle.model_bodies.specs.declared.statement.Location.{Location}
use Rattle.model_bodies.specs.declared.statement.Location.TheVariants.{Cell, Element}
use Rattle.model_bodies.specs.declared.statement.Statement.{Statement}
use Rattle.model_bodies.specs.declared.statement.Statement.TheVariants.{Let, Read, Write, Bump, Update, Put, Get, Spawn, Call, Sync, ParallelFor, If, Else, End}
use Rattle.program_lines.specs.Scopes.{NameScope}
use Rattle.program_lines.specs.Places.{Place, Common, OperandWord, LocationWord, AssignedRegister, FunctionName, Value, Plain, OfOperand, OfLocation, OfAssigned, WordMeans, LocationMeans}
use Rattle.program_lines.specs.Table.{Placed, placed, WordsMean}
use Rattle.program_lines.specs.Grammar.{Does, ItemMeans}

-- the cells are there
abbrev pub IsLocated : NameScope → Location → Type 0
IsLocated scope (Cell cell) = cell < cells_of scope.known.mems
IsLocated scope (Element first count index) = (0 < count) × (first + count ≤ cells_of scope.known.mems)

-- the cells, the reducer and the function are there
abbrev pub IsWithinScope : NameScope → Statement → Type 0
IsWithinScope scope (Read line register location) = IsLocated scope location
IsWithinScope scope (Write line location value) = IsLocated scope location
IsWithinScope scope (Bump line location value) = IsLocated scope location
IsWithinScope scope (Update line reducer value) = reducer < length scope.known.reducers
IsWithinScope scope (Put line reducer value) = reducer < length scope.known.reducers
IsWithinScope scope (Get line register reducer) = reducer < length scope.known.reducers
IsWithinScope scope (Spawn line function argument) = function < length scope.functions
IsWithinScope scope (Call line function argument) = function < length scope.functions
IsWithinScope scope (ParallelFor line register count function) = function < length scope.functions
IsWithinScope scope statement = Unit {0}

pub below_by : (here : Bool) (from number bound : ℕ) (rest : Option ℕ) → from < bound → (rest ≡ Some number → number < bound) → cond here (Some from) rest ≡ Some number → number < bound
below_by true from number bound rest l h e = let same : from ≡ number = cc in omega arith
below_by false from number bound rest l h e = h e

pub position_below : {X : Type 0} (test : X → Bool) (from number : ℕ) (xs : List X) → position_from test from xs ≡ Some number → number < from + length xs
position_below test from number [] e = cc
position_below test from number (x ∷ xs) e =
    below_by (test x) from number (from + length (x ∷ xs)) (position_from test (from + 1) xs) (omega arith)
    (λ f. let later = position_below test (from + 1) number xs f in omega arith) e

module _ (scope : NameScope) (numbered : IsTrue (is_numbered 0 scope.known.mems)) (some : All (λ (mem : Mem). 1 ≤ mem.cells) scope.known.mems) where
  memory_within : (name : List ℕ) (array : Bool) (mem : Mem) → IsDeclared scope.known.mems name array mem → (1 ≤ mem.cells) × (mem.first + mem.cells ≤ cells_of scope.known.mems)
  memory_within name array mem d = (
    found_of_all (λ (x : Mem). 1 ≤ x.cells) _ scope.known.mems mem some d.0,
    (let l : mem.first + mem.cells ≤ 0 + cells_of scope.known.mems =
        found_of_all (λ (x : Mem). x.first + x.cells ≤ 0 + cells_of scope.known.mems) _ scope.known.mems mem (ends_within scope.known.mems numbered) d.0 in
        omega arith),
  )

  pub location_within : (word : List ℕ) (location : Location) → LocationMeans scope word location → IsLocated scope location
  location_within word (Cell cell) m =
      let l = memory_within word false m.1 m.2 in
      omega (arith, m.3, l.0, l.1)
  location_within word (Element first count index) m =
      let l = memory_within m.0 true m.3.1.0 m.3.1.1 in
      (omega (arith, m.3.1.3, l.0), omega (arith, m.3.1.2, m.3.1.3, l.1))

  two_means : (first second : Place) (words : List (List ℕ)) (pairs : List Placed) (a b : Value) → placed (first ∷ second ∷ []) [] words ≡ Some pairs
      → WordsMean scope pairs (a ∷ b ∷ []) → (u : List ℕ) × (v : List ℕ) × WordMeans scope first u a × WordMeans scope second v b
  two_means first second words pairs a b e m =
      let one = first_means (WordMeans scope) first (second ∷ []) [] words pairs a (b ∷ []) e m in
      let other = first_means (WordMeans scope) second [] [] one.1 one.2 b [] one.5 one.4 in
      (one.0, other.0, one.3, other.3)

  three_means : (first second third : Place) (words : List (List ℕ)) (pairs : List Placed) (a b c : Value) → placed (first ∷ second ∷ third ∷ []) [] words ≡ Some pairs
      → WordsMean scope pairs (a ∷ b ∷ c ∷ []) → (w : List ℕ) × WordMeans scope third w c
  three_means first second third words pairs a b c e m =
      let one = first_means (WordMeans scope) first (second ∷ third ∷ []) [] words pairs a (b ∷ c ∷ []) e m in
      let other = first_means (WordMeans scope) second (third ∷ []) [] one.1 one.2 b (c ∷ []) one.5 one.4 in
      let last = first_means (WordMeans scope) third [] [] other.1 other.2 c [] other.5 other.4 in
      (last.0, last.3)

  -- what a statement names is there
  pub does_within : (at : ℕ) (ws : List (List ℕ)) (statement : Statement) (named : Option (List ℕ)) → ItemMeans at scope ws (Does statement named) → IsWithinScope scope statement
  does_within at ws (Let line register value) named m = tt
  does_within at ws (Read line register location) named m =
      let p = two_means AssignedRegister LocationWord m.2.1.0 m.2.0 (OfAssigned register named) (OfLocation location) m.2.1.3 m.2.2 in
      location_within p.1 location p.3
  does_within at ws (Write line location value) named m =
      let p = two_means LocationWord OperandWord m.2.1.0 m.2.0 (OfLocation location) (OfOperand value) m.2.1.3 m.2.2 in
      location_within p.0 location p.2
  does_within at ws (Bump line location value) named m =
      let p = two_means LocationWord OperandWord m.2.1.0 m.2.0 (OfLocation location) (OfOperand value) m.2.1.3 m.2.2 in
      location_within p.0 location p.2
  does_within at ws (Update line reducer value) named m =
      let p = two_means (Common trace.ReducerName) OperandWord m.2.1.0 m.2.0 (Plain (trace.OfNumber reducer)) (OfOperand value) m.2.1.3 m.2.2 in
      let l = position_below _ 0 reducer scope.known.reducers p.2.1 in
      omega arith
  does_within at ws (Put line reducer value) named m =
      let p = two_means (Common trace.ReducerName) OperandWord m.2.1.0 m.2.0 (Plain (trace.OfNumber reducer)) (OfOperand value) m.2.1.3 m.2.2 in
      let l = position_below _ 0 reducer scope.known.reducers p.2.1 in
      omega arith
  does_within at ws (Get line register reducer) named m =
      let p = two_means AssignedRegister (Common trace.ReducerName) m.2.1.0 m.2.0 (OfAssigned register named) (Plain (trace.OfNumber reducer)) m.2.1.3 m.2.2 in
      let l = position_below _ 0 reducer scope.known.reducers p.3.1 in
      omega arith
  does_within at ws (Spawn line function argument) named m =
      let p = two_means FunctionName OperandWord m.2.1.0 m.2.0 (Plain (trace.OfNumber function)) (OfOperand argument) m.2.1.3 m.2.2 in
      let l = position_below _ 0 function scope.functions p.2.1 in
      omega arith
  does_within at ws (Call line function argument) named m =
      let p = two_means FunctionName OperandWord m.2.1.0 m.2.0 (Plain (trace.OfNumber function)) (OfOperand argument) m.2.1.3 m.2.2 in
      let l = position_below _ 0 function scope.functions p.2.1 in
      omega arith
  does_within at ws (Sync line) named m = tt
  does_within at ws (ParallelFor line register count function) named m =
      let p = three_means AssignedRegister OperandWord FunctionName m.2.1.0 m.2.0 (OfAssigned register named) (OfOperand count) (Plain (trace.OfNumber function)) m.2.1.3 m.2.2 in
      let l = position_below _ 0 function scope.functions p.1.1 in
      omega arith
  does_within at ws (If line register otherwise) named m = tt
  does_within at ws (Else line after) named m = tt
  does_within at ws (End line) named m = tt
