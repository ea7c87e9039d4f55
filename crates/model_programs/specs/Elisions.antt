-- The elision of a whole program.
use Rattle.std.specs.Prelude.{◌≡◌, ℕ, ◌<◌, List, Some, map, replicate, length, slice_get}
use Rattle.model_reducers.specs.declared.monoid.Monoid.{Monoid}
use Rattle.model_reducers.specs.declared.view.View.{View}
use Rattle.model_reducers.specs.Products.{identity_of}
use Rattle.model_bodies.specs.Codes.{Code}
use Rattle.model_bodies.specs.Sound.{IsMain}
use Rattle.model_programs.specs.Values.{first_registers}
use Rattle.model_programs.specs.Scripts.{script}
use Rattle.model_programs.specs.Evaluation.{Effect, Store, Evaluates}

-- each cell holds 0, and each reducer's view is the identity
abbrev pub first_store : List Monoid → ℕ → Store
first_store monoids cells = record { memory = replicate cells 0; views = map identity_of monoids }

-- what the whole program does where this function is `main`: it begins with argument 0, in the first store
abbrev pub EvaluatesProgram : List Code → List Monoid → (cells : ℕ) → Code → List Effect → Store → Type 0
EvaluatesProgram functions monoids cells main effects last =
    Evaluates functions monoids main.end_line (script main) (first_registers 0) (first_store monoids cells) effects last

-- one of the functions is `main`
abbrev pub HasMain : List Code → Code → Type 0
HasMain functions main = (index : ℕ) × IsMain functions index × (slice_get functions index ≡ Some main)

-- the program ends with this memory after so many requests, and in no other way
pub record Elides (functions : List Code) (monoids : List Monoid) (cells : ℕ) (memory : List ℕ) (requests : ℕ) : Type 0 where
  pub main : Code
  pub is_main : HasMain functions main
  pub effects : List Effect
  pub views : List View
  pub evaluates : EvaluatesProgram functions monoids cells main effects (record { memory = memory; views = views })
  pub count : length effects ≡ requests
  pub only : (others : List Effect) (last : Store) →
      EvaluatesProgram functions monoids cells main others last → (others ≡ effects) × (last ≡ record { memory = memory; views = views })

-- the program makes more requests than the limit, if it ends
pub record NeedsMore (functions : List Code) (monoids : List Monoid) (cells limit : ℕ) : Type 0 where
  pub main : Code
  pub is_main : HasMain functions main
  pub more : (effects : List Effect) (last : Store) → EvaluatesProgram functions monoids cells main effects last → limit < length effects
