-- The serial elision: a spawn is a call, and a sync changes nothing (Feng and Leiserson 1997).
use Rattle.std.specs.Prelude.{◌≡◌, ◌≢◌, ℕ, ◌+◌, ◌%◌, ◌^◌, List, [], ◌∷◌, ◌++◌, Option, Some, None, unwrap_or, slice_get}
use Rattle.std.specs.Prelude.{slice_index, slice_index_or, slice_set}
use Rattle.model_accesses.specs.declared.request.Act.{Act}
use Rattle.model_reducers.specs.declared.monoid.Monoid.{Monoid}
use Rattle.model_reducers.specs.declared.view.View.{View}
use Rattle.model_reducers.specs.declared.view.View.TheVariants.{Nothing}
use Rattle.model_reducers.specs.Products.{update_view, put_view, product_of, view_number, monoid_of}
use Rattle.model_bodies.specs.declared.statement.Register.{Register}
use Rattle.model_bodies.specs.declared.statement.Operand.{Operand}
use Rattle.model_bodies.specs.declared.statement.Expression.{Expression}
use Rattle.model_bodies.specs.declared.statement.Location.{Location}
use Rattle.model_bodies.specs.declared.statement.Statement.TheVariants.{Let, Read, Write, Bump, Update, Put, Get, Spawn}
use Rattle.model_bodies.specs.declared.statement.Statement.TheVariants.{Call, Sync, ParallelFor}
use Rattle.model_bodies.specs.Codes.{Code}
use Rattle.model_bodies.specs.Trees.{Tree, Done, Step, Choice, and_then}
use Rattle.model_programs.specs.Values.{Registers, first_registers, with_ok, value_of, result_of, cell_of}
use Rattle.model_programs.specs.Scripts.{script, numbers}

-- the cells' values, and the running view of each reducer
pub record Store : Type 0 where
  pub memory : List ℕ
  pub views : List View

-- the store with this value in a cell
abbrev pub with_cell : Store → ℕ → ℕ → Store
with_cell store cell value = record { memory = slice_set store.memory cell value; views = store.views }

abbrev pub view_at : Store → ℕ → View
view_at store reducer = slice_index_or store.views reducer Nothing

-- the store with this view of a reducer
abbrev pub with_view : Store → ℕ → View → Store
with_view store reducer view = record { memory = store.memory; views = slice_set store.views reducer view }

-- the value that a get finds, which is 0 where the view has none
abbrev pub got : Store → ℕ → ℕ
got store reducer = unwrap_or (view_number (view_at store reducer)) 0

-- what one request did: its act with its line, and the value that it was given
pub record Effect : Type 0 where
  pub act : Act
  pub line : ℕ
  pub value : Option ℕ

-- a request that is given no value
abbrev pub effect : Act → ℕ → Effect
effect act line = record { act = act; line = line; value = None }

-- one that is given this value
abbrev pub valued : Act → ℕ → ℕ → Effect
valued act line value = record { act = act; line = line; value = Some value }

-- the registers with this value in one of them
abbrev pub with_register : Registers → Register → ℕ → Registers
with_register registers register value = slice_set registers register.index value

-- What is left of a function whose `end` stands on this line, from these registers and this store on: the effects of its requests and of
-- those of the functions that it begins, in order, and the last store.
pub data Evaluates (functions : List Code) (monoids : List Monoid)
    : (end_line : ℕ) → Tree → Registers → Store → List Effect → Store → Type 0 where
  let_evaluated : {end_line : ℕ} {rest : Tree} {registers : Registers} {store last : Store}
      {effects : List Effect} {line : ℕ} {register : Register} {value : Expression} →
      Evaluates functions monoids end_line rest (with_register registers register (result_of value registers)) store effects last →
      Evaluates functions monoids end_line (Step (Let line register value) rest) registers store effects last
  read_evaluated : {end_line : ℕ} {rest : Tree} {registers : Registers} {store last : Store}
      {effects : List Effect} {line : ℕ} {register : Register} {location : Location} →
      Evaluates functions monoids end_line rest
      (with_register (with_ok 1 registers) register (slice_index store.memory (cell_of location registers))) store effects last →
      Evaluates functions monoids end_line (Step (Read line register location) rest) registers store
      (valued (Act.Read (cell_of location registers)) line (slice_index store.memory (cell_of location registers)) ∷ effects) last
  write_evaluated : {end_line : ℕ} {rest : Tree} {registers : Registers} {store last : Store}
      {effects : List Effect} {line : ℕ} {location : Location} {value : Operand} →
      Evaluates functions monoids end_line rest (with_ok 1 registers)
      (with_cell store (cell_of location registers) (value_of value registers)) effects last →
      Evaluates functions monoids end_line (Step (Write line location value) rest) registers store
      (effect (Act.Write (cell_of location registers) (value_of value registers)) line ∷ effects) last
  -- a bump adds modulo 2^64
  bump_evaluated : {end_line : ℕ} {rest : Tree} {registers : Registers} {store last : Store}
      {effects : List Effect} {line : ℕ} {location : Location} {value : Operand} →
      Evaluates functions monoids end_line rest (with_ok 1 registers)
      (with_cell store (cell_of location registers)
      ((slice_index store.memory (cell_of location registers) + value_of value registers) % 2 ^ 64)) effects last →
      Evaluates functions monoids end_line (Step (Bump line location value) rest) registers store
      (effect (Act.Bump (cell_of location registers) (value_of value registers)) line ∷ effects) last
  -- an update combines on the right, and a put replaces
  update_evaluated : {end_line : ℕ} {rest : Tree} {registers : Registers}
      {store last : Store} {effects : List Effect} {line reducer : ℕ} {value : Operand} →
      Evaluates functions monoids end_line rest (with_ok 1 registers)
      (with_view store reducer
      (product_of (monoid_of monoids reducer) (view_at store reducer) (update_view (monoid_of monoids reducer) (value_of value registers))))
      effects last →
      Evaluates functions monoids end_line (Step (Update line reducer value) rest) registers store
      (effect (Act.Update reducer (value_of value registers)) line ∷ effects) last
  put_evaluated : {end_line : ℕ} {rest : Tree} {registers : Registers}
      {store last : Store} {effects : List Effect} {line reducer : ℕ} {value : Operand} →
      Evaluates functions monoids end_line rest (with_ok 1 registers)
      (with_view store reducer (put_view (monoid_of monoids reducer) (value_of value registers))) effects last →
      Evaluates functions monoids end_line (Step (Put line reducer value) rest) registers store
      (effect (Act.Put reducer (value_of value registers)) line ∷ effects) last
  get_evaluated : {end_line : ℕ} {rest : Tree} {registers : Registers} {store last : Store}
      {effects : List Effect} {line reducer : ℕ} {register : Register} →
      Evaluates functions monoids end_line rest (with_register (with_ok 1 registers) register (got store reducer)) store effects last →
      Evaluates functions monoids end_line (Step (Get line register reducer) rest) registers store
      (valued (Act.Get reducer) line (got store reducer) ∷ effects) last
  -- the function's whole body with its own registers, and then the rest
  spawn_evaluated : {end_line : ℕ} {rest : Tree} {registers : Registers} {store between last : Store}
      {inner outer effects : List Effect} {line function : ℕ} {argument : Operand} {callee : Code} →
      slice_get functions function ≡ Some callee →
      Evaluates functions monoids callee.end_line (script callee) (first_registers (value_of argument registers)) store inner between →
      Evaluates functions monoids end_line rest registers between outer last →
      effects ≡ inner ++ outer →
      Evaluates functions monoids end_line (Step (Spawn line function argument) rest) registers store (effect Act.Spawn line ∷ effects) last
  call_evaluated : {end_line : ℕ} {rest : Tree} {registers : Registers} {store between last : Store}
      {inner outer effects : List Effect} {line function : ℕ} {argument : Operand} {callee : Code} →
      slice_get functions function ≡ Some callee →
      Evaluates functions monoids callee.end_line (script callee) (first_registers (value_of argument registers)) store inner between →
      Evaluates functions monoids end_line rest registers between outer last →
      effects ≡ inner ++ outer →
      Evaluates functions monoids end_line (Step (Call line function argument) rest) registers store (effect Act.Call line ∷ effects) last
  sync_evaluated : {end_line : ℕ} {rest : Tree} {registers : Registers} {store last : Store} {effects : List Effect} {line : ℕ} →
      Evaluates functions monoids end_line rest registers store effects last →
      Evaluates functions monoids end_line (Step (Sync line) rest) registers store (effect Act.Sync line ∷ effects) last
  -- an `if`, by what its register holds
  first_evaluated : {end_line : ℕ} {first second rest : Tree} {registers : Registers}
      {store last : Store} {effects : List Effect} {line : ℕ} {register : Register} →
      slice_index registers register.index ≢ 0 →
      Evaluates functions monoids end_line (and_then first rest) registers store effects last →
      Evaluates functions monoids end_line (Choice line register first second rest) registers store effects last
  second_evaluated : {end_line : ℕ} {first second rest : Tree} {registers : Registers}
      {store last : Store} {effects : List Effect} {line : ℕ} {register : Register} →
      slice_index registers register.index ≡ 0 →
      Evaluates functions monoids end_line (and_then second rest) registers store effects last →
      Evaluates functions monoids end_line (Choice line register first second rest) registers store effects last
  -- a `pfor`, whose count is evaluated once
  pfor_evaluated : {end_line : ℕ} {rest : Tree} {registers : Registers} {store last : Store}
      {effects : List Effect} {line function : ℕ} {register : Register} {count : Operand} →
      Evaluates functions monoids end_line (numbers line register function 0 (value_of count registers) rest) registers store effects last →
      Evaluates functions monoids end_line (Step (ParallelFor line register count function) rest) registers store effects last
  -- the function's return, behind the sync at its end
  return_evaluated : {end_line : ℕ} {registers : Registers} {store : Store} →
      Evaluates functions monoids end_line Done registers store (effect Act.Return end_line ∷ []) store
