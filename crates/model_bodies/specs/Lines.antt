-- Where a statement stands in its text.
use Rattle.std.specs.Prelude.{ℕ}
use Rattle.model_bodies.specs.declared.statement.Statement.{Statement}
use Rattle.model_bodies.specs.declared.statement.Statement.TheVariants.{Let, Read, Write, Bump, Update, Put, Get}
use Rattle.model_bodies.specs.declared.statement.Statement.TheVariants.{Spawn, Call, Sync, ParallelFor, If, Else, End}

-- The number of the line of a statement.
abbrev pub line_of : Statement → ℕ
line_of (Let line register value) = line
line_of (Read line register location) = line
line_of (Write line location value) = line
line_of (Bump line location value) = line
line_of (Update line reducer value) = line
line_of (Put line reducer value) = line
line_of (Get line register reducer) = line
line_of (Spawn line function argument) = line
line_of (Call line function argument) = line
line_of (Sync line) = line
line_of (ParallelFor line register count function) = line
line_of (If line register otherwise) = line
line_of (Else line after) = line
line_of (End line) = line
