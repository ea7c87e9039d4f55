-- What a function may ask and be answered.
use Rattle.std.specs.Prelude.{ℕ, ◌≡◌, List, [], ◌∷◌, ◌++◌, Some, slice_get}
use Rattle.model_bodies.specs.declared.statement.Register.{Register}
use Rattle.model_bodies.specs.declared.statement.Operand.{Operand}
use Rattle.model_bodies.specs.declared.statement.Location.{Location}
use Rattle.model_bodies.specs.declared.statement.Statement.TheVariants.{Read, Write, Bump, Update, Put, Get, Spawn, Call, Sync}
use Rattle.model_bodies.specs.Codes.{Code}
use Rattle.model_bodies.specs.Trees.{Tree, Done, Step}
use Rattle.model_accesses.specs.declared.request.Act.{Act}
use Rattle.model_histories.specs.declared.answer.Answer.{Answer}
use Rattle.model_histories.specs.declared.answer.Answer.TheVariants.{Same}
use Rattle.model_programs.specs.Values.{Registers, first_registers, value_of, cell_of}
use Rattle.model_programs.specs.Scripts.{script, Passes}
use Rattle.model_programs.specs.Answers.{after_read, after_get, after_write, after_update, after_spawn, after_sync}
use Rattle.model_programs.specs.Answers.{Origin, FromCall, IsReturned, FromSpawn}
use Rattle.model_programs.specs.Exchanges.{Exchange, exchange, spawning}

-- How far a dialogue goes: to its function's return, or to any place on the way.
pub data Extent : Type 0 where
  Whole Part : Extent

-- The dialogues of what is left of a function whose `end` has this line, from these registers on.
pub data Dialogue (functions : List Code) : Origin → Extent → (end_line : ℕ) → Tree → Registers → List Exchange → Type 0 where
  -- it may stop anywhere
  stopped : {origin : Origin} {end_line : ℕ} {rest : Tree} {registers : Registers} →
      Dialogue functions origin Part end_line rest registers []
  -- `let`, `if` and the begin of a `pfor` ask nothing
  passed : {origin : Origin} {extent : Extent} {end_line : ℕ} {rest later : Tree} {registers changed : Registers} {said : List Exchange} →
      Passes rest registers later changed →
      Dialogue functions origin extent end_line later changed said →
      Dialogue functions origin extent end_line rest registers said
  -- `read r L`
  read : {origin : Origin} {extent : Extent} {end_line : ℕ} {rest : Tree} {registers after : Registers}
      {said : List Exchange} {line : ℕ} {register : Register} {location : Location} (answer : Answer) →
      after_read register answer registers ≡ Some after →
      Dialogue functions origin extent end_line rest after said →
      Dialogue functions origin extent end_line (Step (Read line register location) rest) registers
      (exchange (Act.Read (cell_of location registers)) line answer ∷ said)
  -- `write L o`
  write : {origin : Origin} {extent : Extent} {end_line : ℕ} {rest : Tree} {registers after : Registers}
      {said : List Exchange} {line : ℕ} {location : Location} {value : Operand} (answer : Answer) →
      after_write answer registers ≡ Some after →
      Dialogue functions origin extent end_line rest after said →
      Dialogue functions origin extent end_line (Step (Write line location value) rest) registers
      (exchange (Act.Write (cell_of location registers) (value_of value registers)) line answer ∷ said)
  -- `bump L o`
  bump : {origin : Origin} {extent : Extent} {end_line : ℕ} {rest : Tree} {registers after : Registers}
      {said : List Exchange} {line : ℕ} {location : Location} {value : Operand} (answer : Answer) →
      after_write answer registers ≡ Some after →
      Dialogue functions origin extent end_line rest after said →
      Dialogue functions origin extent end_line (Step (Bump line location value) rest) registers
      (exchange (Act.Bump (cell_of location registers) (value_of value registers)) line answer ∷ said)
  -- `update h o`
  update : {origin : Origin} {extent : Extent} {end_line : ℕ} {rest : Tree} {registers after : Registers}
      {said : List Exchange} {line reducer : ℕ} {value : Operand} (answer : Answer) →
      after_update answer registers ≡ Some after →
      Dialogue functions origin extent end_line rest after said →
      Dialogue functions origin extent end_line (Step (Update line reducer value) rest) registers
      (exchange (Act.Update reducer (value_of value registers)) line answer ∷ said)
  -- `put h o`
  put : {origin : Origin} {extent : Extent} {end_line : ℕ} {rest : Tree} {registers after : Registers}
      {said : List Exchange} {line reducer : ℕ} {value : Operand} (answer : Answer) →
      after_write answer registers ≡ Some after →
      Dialogue functions origin extent end_line rest after said →
      Dialogue functions origin extent end_line (Step (Put line reducer value) rest) registers
      (exchange (Act.Put reducer (value_of value registers)) line answer ∷ said)
  -- `get r h`
  get : {origin : Origin} {extent : Extent} {end_line : ℕ} {rest : Tree} {registers after : Registers}
      {said : List Exchange} {line reducer : ℕ} {register : Register} (answer : Answer) →
      after_get register answer registers ≡ Some after →
      Dialogue functions origin extent end_line rest after said →
      Dialogue functions origin extent end_line (Step (Get line register reducer) rest) registers
      (exchange (Act.Get reducer) line answer ∷ said)
  -- `spawn f o`, and the spawns of a `pfor`
  spawned : {origin : Origin} {extent : Extent} {end_line : ℕ} {rest : Tree} {registers after : Registers}
      {said : List Exchange} {line function : ℕ} {argument : Operand} (answer : Answer) →
      after_spawn answer registers ≡ Some after →
      Dialogue functions origin extent end_line rest after said →
      Dialogue functions origin extent end_line (Step (Spawn line function argument) rest) registers
      (spawning line function (value_of argument registers) answer ∷ said)
  -- `call f o`: the whole dialogue of the called function, with registers of its own, and then the rest; or a part of the called function's
  -- alone
  called : {origin : Origin} {extent : Extent} {end_line : ℕ} {rest : Tree} {registers : Registers}
      {inner outer said : List Exchange} {line function : ℕ} {argument : Operand} {callee : Code} →
      slice_get functions function ≡ Some callee →
      Dialogue functions FromCall Whole callee.end_line (script callee) (first_registers (value_of argument registers)) inner →
      Dialogue functions origin extent end_line rest registers outer →
      said ≡ inner ++ outer →
      Dialogue functions origin extent end_line (Step (Call line function argument) rest) registers (exchange Act.Call line Same ∷ said)
  in_call : {origin : Origin} {end_line : ℕ} {rest : Tree} {registers : Registers}
      {inner : List Exchange} {line function : ℕ} {argument : Operand} {callee : Code} →
      slice_get functions function ≡ Some callee →
      Dialogue functions FromCall Part callee.end_line (script callee) (first_registers (value_of argument registers)) inner →
      Dialogue functions origin Part end_line (Step (Call line function argument) rest) registers (exchange Act.Call line Same ∷ inner)
  -- `sync`, that of a `pfor`, and that at the function's end
  synced : {origin : Origin} {extent : Extent} {end_line : ℕ} {rest : Tree}
      {registers after : Registers} {said : List Exchange} {line : ℕ} (answer : Answer) →
      after_sync answer registers ≡ Some after →
      Dialogue functions origin extent end_line rest after said →
      Dialogue functions origin extent end_line (Step (Sync line) rest) registers (exchange Act.Sync line answer ∷ said)
  -- the function's end: the return
  returned : {origin : Origin} {extent : Extent} {end_line : ℕ} {registers : Registers} (answer : Answer) →
      IsReturned origin answer →
      Dialogue functions origin extent end_line Done registers (exchange Act.Return end_line answer ∷ [])

-- The dialogues of a function that is spawned with an argument. The function is there: one that is absent has none.
pub record DialogueOf (functions : List Code) (function argument : ℕ) (extent : Extent) (said : List Exchange) : Type 0 where
  pub code : Code
  pub there : slice_get functions function ≡ Some code
  pub says : Dialogue functions FromSpawn extent code.end_line (script code) (first_registers argument) said
