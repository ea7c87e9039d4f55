-- Indexes that wrap at the length of their array.
use Rattle.std.specs.Prelude.{ℕ, nat_lt, if◌then◌else◌, Option, Some, None}
use Rattle.model_bodies.specs.declared.statement.Location.{Location}
use Rattle.model_bodies.specs.declared.statement.Location.TheVariants.{Cell, Element}
use Rattle.model_bodies.specs.declared.statement.Statement.{Statement}
use Rattle.model_bodies.specs.declared.statement.Statement.TheVariants.{Read, Write, Bump}
use Rattle.model_programs.specs.Values.{Registers, value_of}

-- The index of an element, where it is not below the length of the array.
abbrev pub wrapped_index : Location → Registers → Option ℕ
wrapped_index (Cell cell) registers = None
wrapped_index (Element first count index) registers =
    if nat_lt (value_of index registers) count then None else Some (value_of index registers)

-- That of the cell that a statement reads or writes.
abbrev pub wrap_of : Statement → Registers → Option ℕ
wrap_of (Read line register location) registers = wrapped_index location registers
wrap_of (Write line location value) registers = wrapped_index location registers
wrap_of (Bump line location value) registers = wrapped_index location registers
wrap_of _ registers = None

-- The same of a statement that may be none.
abbrev pub wrap_before : Option Statement → Registers → Option ℕ
wrap_before None registers = None
wrap_before (Some statement) registers = wrap_of statement registers
