-- What a function does, as a tree of statements, and the statements that ask nothing.
use Rattle.std.specs.Prelude.{◌≡◌, ◌≢◌, ℕ, zero, suc, slice_index, slice_set}
use Rattle.model_bodies.specs.declared.statement.Register.{Register}
use Rattle.model_bodies.specs.declared.statement.Operand.{Operand}
use Rattle.model_bodies.specs.declared.statement.Operand.TheVariants.{Number}
use Rattle.model_bodies.specs.declared.statement.Expression.{Expression}
use Rattle.model_bodies.specs.declared.statement.Expression.TheVariants.{Plain}
use Rattle.model_bodies.specs.declared.statement.Statement.TheVariants.{Let, Spawn, Sync, ParallelFor}
use Rattle.model_bodies.specs.Codes.{Code}
use Rattle.model_bodies.specs.Trees.{Tree, Done, Step, Choice, and_then, left_of}
use Rattle.model_programs.specs.Values.{Registers, value_of, result_of}

-- The sync at a function's end. The return follows it, where nothing is left.
abbrev pub closing : (end_line : ℕ) → Tree
closing end_line = Step (Sync end_line) Done

-- What a function does: its statements, and then the sync at its end.
abbrev pub script : Code → Tree
script code = and_then (left_of code.body) (closing code.end_line)

-- What a `pfor` does from a number on: so many numbers are left, for each of which the register takes it and the function is spawned with
-- it, and then comes one sync.
abbrev pub numbers : (line : ℕ) (register : Register) (function number remaining : ℕ) → Tree → Tree
numbers line register function number zero rest = Step (Sync line) rest
numbers line register function number (suc remaining) rest =
    Step (Let line register (Plain (Number number)))
    (Step (Spawn line function (Number number)) (numbers line register function (suc number) remaining rest))

-- A statement that asks nothing: what is left of the function and its registers, before and after.
pub data Passes : Tree → Registers → Tree → Registers → Type 0 where
  -- `let`
  assigned : {line : ℕ} {register : Register} {value : Expression} {rest : Tree} {registers : Registers} →
      Passes (Step (Let line register value) rest) registers rest (slice_set registers register.index (result_of value registers))
  -- `if`
  first_part : {line : ℕ} {register : Register} {first second rest : Tree} {registers : Registers} →
      slice_index registers register.index ≢ 0 → Passes (Choice line register first second rest) registers (and_then first rest) registers
  second_part : {line : ℕ} {register : Register} {first second rest : Tree} {registers : Registers} →
      slice_index registers register.index ≡ 0 → Passes (Choice line register first second rest) registers (and_then second rest) registers
  -- `pfor`, which evaluates its operand once
  counted : {line function : ℕ} {register : Register} {count : Operand} {rest : Tree} {registers : Registers} →
      Passes (Step (ParallelFor line register count function) rest) registers
      (numbers line register function 0 (value_of count registers) rest) registers
