-- What operands, expressions and locations mean.
use Rattle.std.specs.Prelude.{ℕ, ◌+◌, ◌-◌, ◌*◌, ◌%◌, ◌^◌, List, slice_index, slice_set, replicate, nat_lt, if◌then◌else◌}
use Rattle.model_bodies.specs.declared.statement.Operand.{Operand}
use Rattle.model_bodies.specs.declared.statement.Operand.TheVariants.{Number, Held}
use Rattle.model_bodies.specs.declared.statement.Expression.{Expression}
use Rattle.model_bodies.specs.declared.statement.Expression.TheVariants.{Plain, Sum, Difference, Product, Less}
use Rattle.model_bodies.specs.declared.statement.Location.{Location}
use Rattle.model_bodies.specs.declared.statement.Location.TheVariants.{Cell, Element}

-- The registers of one call of a function, the first of them `ok`.
abbrev pub Registers : Type 0
Registers = List ℕ

-- The registers as a function begins: `ok` is 1, the parameter holds the argument, and the others are 0.
abbrev pub first_registers : (argument : ℕ) → Registers
first_registers argument = slice_set (slice_set (replicate 17 0) 0 1) 1 argument

-- The registers with another `ok`.
abbrev pub with_ok : (ok : ℕ) → Registers → Registers
with_ok ok registers = slice_set registers 0 ok

-- The value of an operand.
abbrev pub value_of : Operand → Registers → ℕ
value_of (Number number) registers = number
value_of (Held register) registers = slice_index registers register.index

-- The value of an expression.
abbrev pub result_of : Expression → Registers → ℕ
result_of (Plain a) registers = value_of a registers
result_of (Sum a b) registers = (value_of a registers + value_of b registers) % (2 ^ 64)
result_of (Difference a b) registers = (value_of a registers + (2 ^ 64 - value_of b registers)) % (2 ^ 64)
result_of (Product a b) registers = (value_of a registers * value_of b registers) % (2 ^ 64)
result_of (Less a b) registers = if nat_lt (value_of a registers) (value_of b registers) then 1 else 0

-- The number of the cell that a location means.
abbrev pub cell_of : Location → Registers → ℕ
cell_of (Cell cell) registers = cell
cell_of (Element first count index) registers = first + value_of index registers % count
