-- Functions that have called one another, and their dialogues.
use Rattle.std.specs.Prelude.{ℕ, ◌≡◌, ◌↔◌, List, [], ◌∷◌, ◌++◌, ◌⊎◌, Some, slice_get}
use Rattle.model_accesses.specs.declared.request.Act.{Act}
use Rattle.model_bodies.specs.declared.statement.Operand.{Operand}
use Rattle.model_bodies.specs.declared.statement.Statement.{Statement}
use Rattle.model_bodies.specs.declared.statement.Statement.TheVariants.{Call}
use Rattle.model_bodies.specs.Codes.{Code}
use Rattle.model_bodies.specs.Trees.{Tree, Done, Step}
use Rattle.model_programs.specs.Scripts.{script, Passes}
use Rattle.model_programs.specs.Values.{Registers, first_registers, value_of}
use Rattle.model_programs.specs.Answers.{Origin, FromCall, FromSpawn}
use Rattle.model_programs.specs.Exchanges.{Exchange}
use Rattle.model_programs.specs.Dialogue.{Extent, Whole, Part, Dialogue}
use Rattle.frame_steps.specs.Requests.{act_of, answered}

-- A function with what is left of it.
pub record Standing : Type 0 where
  pub rest : Tree
  pub end_line : ℕ
  pub registers : Registers

-- The dialogues of a stack of functions, each called by the next, and the last one spawned.
abbrev pub StackDialogue : List Code → Extent → List Standing → List Exchange → Type 0
StackDialogue functions extent [] said = said ≡ []
StackDialogue functions extent (top ∷ []) said = Dialogue functions FromSpawn extent top.end_line top.rest top.registers said
StackDialogue functions extent (top ∷ caller ∷ callers) said =
    ((extent ≡ Part) × Dialogue functions FromCall Part top.end_line top.rest top.registers said)
    ⊎ ((inner : List Exchange) × (outer : List Exchange) × Dialogue functions FromCall Whole top.end_line top.rest top.registers inner
    × StackDialogue functions extent (caller ∷ callers) outer × (said ≡ inner ++ outer))

-- What is left of a function, for which these wait, comes by these exchanges before this statement, which asks, with these registers.
pub data Comes (functions : List Code) (statement : Statement) (registers : Registers) :
    (end_line : ℕ) → Tree → Registers → List Standing → List Exchange → Type 0 where
  stands_here : {end_line : ℕ} {rest : Tree} {callers : List Standing} {act : Act} → act_of statement registers ≡ Some act →
      Comes functions statement registers end_line (Step statement rest) registers callers []
  -- behind a statement that asks nothing
  goes_past : {end_line : ℕ} {rest later : Tree} {before changed : Registers} {callers : List Standing} {said : List Exchange} →
      Passes rest before later changed →
      Comes functions statement registers end_line later changed callers said →
      Comes functions statement registers end_line rest before callers said
  -- behind an answer
  goes_onward : {end_line : ℕ} {asked : Statement} {rest : Tree} {before after : Registers} {callers : List Standing}
      {x : Exchange} {said : List Exchange} →
      answered asked x.answer before ≡ Some after →
      Comes functions statement registers end_line rest after callers said →
      Comes functions statement registers end_line (Step asked rest) before callers (x ∷ said)
  -- into a called function, and out of it
  goes_inward : {end_line line function : ℕ} {argument : Operand} {rest : Tree} {before : Registers} {callers : List Standing}
      {callee : Code} {x : Exchange} {said : List Exchange} →
      slice_get functions function ≡ Some callee →
      Comes functions statement registers callee.end_line (script callee) (first_registers (value_of argument before))
      (record { rest = rest; end_line = end_line; registers = before } ∷ callers) said →
      Comes functions statement registers end_line (Step (Call line function argument) rest) before callers (x ∷ said)
  goes_outward : {end_line : ℕ} {before : Registers} {caller : Standing} {callers : List Standing} {x : Exchange} {said : List Exchange} →
      Comes functions statement registers caller.end_line caller.rest caller.registers callers said →
      Comes functions statement registers end_line Done before (caller ∷ callers) (x ∷ said)

abbrev pub StackComes : List Code → Statement → Registers → List Standing → List Exchange → Type 0
StackComes functions statement registers [] said = ⊥
StackComes functions statement registers (top ∷ callers) said =
    Comes functions statement registers top.end_line top.rest top.registers callers said

-- A function that began with this argument comes so.
pub record ComesBefore (functions : List Code) (function argument : ℕ) (said : List Exchange)
    (statement : Statement) (registers : Registers) : Type 0 where
  pub code : Code
  pub there : slice_get functions function ≡ Some code
  pub comes : Comes functions statement registers code.end_line (script code) (first_registers argument) [] said

-- Two stacks with the same dialogues, which come before the same statements.
pub record SameStack (functions : List Code) (before after : List Standing) : Type 0 where
  pub on : (extent : Extent) (said : List Exchange) → StackDialogue functions extent before said → StackDialogue functions extent after said
  pub back : (extent : Extent) (said : List Exchange) →
      StackDialogue functions extent after said → StackDialogue functions extent before said
  pub comes : (statement : Statement) (registers : Registers) (said : List Exchange) →
      StackComes functions statement registers before said ↔ StackComes functions statement registers after said

-- Two stacks, the second after an exchange.
pub record NextStack (functions : List Code) (x : Exchange) (before after : List Standing) : Type 0 where
  pub on : (extent : Extent) (said : List Exchange) →
      StackDialogue functions extent before (x ∷ said) → StackDialogue functions extent after said
  pub back : (extent : Extent) (said : List Exchange) →
      StackDialogue functions extent after said → StackDialogue functions extent before (x ∷ said)
  pub comes : (statement : Statement) (registers : Registers) (said : List Exchange) →
      StackComes functions statement registers before (x ∷ said) ↔ StackComes functions statement registers after said

-- Who began the topmost function, by those below it.
abbrev pub origin_of : List Standing → Origin
origin_of [] = FromSpawn
origin_of (caller ∷ callers) = FromCall
