-- The elision of a stack of functions, each begun by the next.
use Rattle.std.specs.Prelude.{◌≡◌, ℕ, List, [], ◌∷◌, ◌++◌}
use Rattle.model_programs.specs.Evaluation.{Store, Effect, Evaluates}
use Rattle.model_reducers.specs.declared.monoid.Monoid.{Monoid}
use Rattle.model_bodies.specs.Codes.{Code}
use Rattle.model_bodies.specs.Trees.{Tree}
use Rattle.model_programs.specs.Values.{Registers}

-- a function with what is left of it
pub record Standing : Type 0 where
  pub end_line : ℕ
  pub rest : Tree
  pub registers : Registers

-- the same of a stack of functions, each begun by the next
abbrev pub StackEvaluates : List Code → List Monoid → List Standing → Store → List Effect → Store → Type 0
StackEvaluates functions monoids [] store effects last = (effects ≡ []) × (store ≡ last)
StackEvaluates functions monoids (top ∷ callers) store effects last =
    (inner : List Effect) × (outer : List Effect) × (between : Store) ×
    Evaluates functions monoids top.end_line top.rest top.registers store inner between ×
    StackEvaluates functions monoids callers between outer last × (effects ≡ inner ++ outer)

-- a stack of functions and what the cells and the reducers hold
pub record Configuration : Type 0 where
  pub stack : List Standing
  pub store : Store

abbrev pub configuration : List Standing → Store → Configuration
configuration stack store = record { stack = stack; store = store }

-- the first configuration has these effects and goes on as the second
pub record Leads (functions : List Code) (monoids : List Monoid) (done : List Effect) (before after : Configuration) : Type 0 where
  pub on : (effects : List Effect) (last : Store) → StackEvaluates functions monoids before.stack before.store effects last →
      (left : List Effect) × (effects ≡ done ++ left) × StackEvaluates functions monoids after.stack after.store left last
  pub back : (left : List Effect) (last : Store) → StackEvaluates functions monoids after.stack after.store left last →
      StackEvaluates functions monoids before.stack before.store (done ++ left) last
