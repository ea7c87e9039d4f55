-- Requests one after another over one store, and what a function did together with the functions that it spawned.
use Rattle.std.specs.Prelude.{ℕ, ◌≡◌, ◌+◌, ◌%◌, ◌^◌, List, [], ◌∷◌, ◌++◌, Option, Some, None, slice_get, slice_index}
use Rattle.model_accesses.specs.declared.request.Act.{Act}
use Rattle.model_reducers.specs.declared.monoid.Monoid.{Monoid}
use Rattle.model_histories.specs.Extensions.{IsCleanAnswer}
use Rattle.model_reducers.specs.Products.{update_view, put_view, product_of, monoid_of}
use Rattle.model_bodies.specs.Codes.{Code}
use Rattle.model_programs.specs.declared.target.Target.{Target}
use Rattle.model_programs.specs.Values.{first_registers}
use Rattle.model_programs.specs.Scripts.{script}
use Rattle.model_programs.specs.Exchanges.{Exchange}
use Rattle.model_programs.specs.Evaluation.{Effect, Store, with_cell, view_at, with_view, got, Evaluates}
use Rattle.model_runs.specs.Serial.{value_given}

-- the store after an act
abbrev pub after_act : List Monoid → Act → Store → Store
after_act monoids (Act.Write cell value) store = with_cell store cell value
after_act monoids (Act.Bump cell value) store = with_cell store cell ((slice_index store.memory cell + value) % 2 ^ 64)
after_act monoids (Act.Update reducer value) store =
    with_view store reducer (product_of (monoid_of monoids reducer) (view_at store reducer) (update_view (monoid_of monoids reducer) value))
after_act monoids (Act.Put reducer value) store = with_view store reducer (put_view (monoid_of monoids reducer) value)
after_act monoids _ store = store

-- the store after what was done one after another
abbrev pub after_all : List Monoid → List Effect → Store → Store
after_all monoids [] store = store
after_all monoids (one ∷ effects) store = after_all monoids effects (after_act monoids one.act store)

-- a read or a get is given what the store holds
abbrev pub IsRightAt : Store → Act → Option ℕ → Type 0
IsRightAt store (Act.Read cell) value = value ≡ Some (slice_index store.memory cell)
IsRightAt store (Act.Get reducer) value = value ≡ Some (got store reducer)
IsRightAt store _ value = Unit {0}

-- and so each of what was done one after another
abbrev pub AreRight : List Monoid → Store → List Effect → Type 0
AreRight monoids store [] = Unit {0}
AreRight monoids store (one ∷ effects) = IsRightAt store one.act one.value × AreRight monoids (after_act monoids one.act store) effects

-- what an exchange did
abbrev pub did : Exchange → Effect
did x = record { act = x.act; line = x.line; value = value_given x.answer }

-- the effects are an evaluation of the function with this argument, from each store from which they are right
abbrev pub IsDoneBy : List Code → List Monoid → Code → (argument : ℕ) → List Effect → Type 0
IsDoneBy functions monoids code argument effects =
    (store : Store) → AreRight monoids store effects →
    Evaluates functions monoids code.end_line (script code) (first_registers argument) store effects (after_all monoids effects store)

-- exchanges, none of them refused, and what they did, with what the spawned function did behind each spawn
pub data Inserts (functions : List Code) (monoids : List Monoid) : List Exchange → List Effect → Type 0 where
  nothing : Inserts functions monoids [] []
  kept : {x : Exchange} {said : List Exchange} {all : List Effect} →
      x.target ≡ None → IsCleanAnswer x.answer → Inserts functions monoids said all →
      Inserts functions monoids (x ∷ said) (did x ∷ all)
  inserted : {x : Exchange} {said : List Exchange} {inner outer all : List Effect} {target : Target} {child : Code} →
      x.target ≡ Some target →
      slice_get functions target.function ≡ Some child → IsDoneBy functions monoids child target.argument inner →
      Inserts functions monoids said outer → all ≡ inner ++ outer → Inserts functions monoids (x ∷ said) (did x ∷ all)
