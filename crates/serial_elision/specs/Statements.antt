-- Kinds of statements.
use Rattle.std.specs.Prelude.{Bool, true, false}
use Rattle.model_bodies.specs.declared.statement.Statement.{Statement}
use Rattle.model_bodies.specs.declared.statement.Statement.TheVariants.{Let, Read, Write, Bump, Update, Put, Get}
use Rattle.model_bodies.specs.declared.statement.Statement.TheVariants.{Spawn, Call, ParallelFor, If, Else, End}

-- it accesses memory
abbrev pub is_access : Statement → Bool
is_access (Read line register location) = true
is_access (Write line location value) = true
is_access (Bump line location value) = true
is_access _ = false

-- it accesses a reducer
abbrev pub is_reduction : Statement → Bool
is_reduction (Update line reducer value) = true
is_reduction (Put line reducer value) = true
is_reduction (Get line register reducer) = true
is_reduction _ = false

-- it begins a function
abbrev pub is_invocation : Statement → Bool
is_invocation (Spawn line function argument) = true
is_invocation (Call line function argument) = true
is_invocation _ = false

-- it asks nothing
abbrev pub is_silent : Statement → Bool
is_silent (Let line register value) = true
is_silent (ParallelFor line register count function) = true
is_silent (If line register otherwise) = true
is_silent (Else line after) = true
is_silent (End line) = true
is_silent _ = false
