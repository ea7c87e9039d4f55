-- Bodies as trees of statements.
use Rattle.std.specs.Prelude.{ℕ, List, [], ◌∷◌}
use Rattle.model_bodies.specs.declared.statement.Register.{Register}
use Rattle.model_bodies.specs.declared.statement.Statement.{Statement}
use Rattle.model_bodies.specs.declared.statement.Statement.TheVariants.{If, Else, End}

-- Statements one after another: none; one that is no `if`, and what follows it; or an `if` with its register, its first and its second
-- part, and what follows it.
pub data Tree : Type 0 where
  Done : Tree
  Step : Statement → Tree → Tree
  Choice : (line : ℕ) (register : Register) (first second rest : Tree) → Tree

-- One tree and then the other.
abbrev pub and_then : Tree → Tree → Tree
and_then Done later = later
and_then (Step statement rest) later = Step statement (and_then rest later)
and_then (Choice line register first second rest) later = Choice line register first second (and_then rest later)

-- An `if` in which a list of statements begins: its second part, where the list begins in the first, and what follows it.
pub record Around : Type 0 where
  pub second : Tree
  pub rest : Tree

-- What a list of statements holds: those up to the end of the part in which it begins, and the `if`s around that part, the innermost first.
pub record Read : Type 0 where
  pub here : Tree
  pub around : List Around

-- An `if` before a first part that is read.
abbrev pub choose : ℕ → Register → Tree → List Around → Read
choose line register first [] = record { here = Choice line register first Done Done; around = [] }
choose line register first (one ∷ more) = record { here = Choice line register first one.second one.rest; around = more }

-- An `else` before a second part that is read.
abbrev pub divide : Tree → List Around → Read
divide second [] = record { here = Done; around = record { second = second; rest = Done } ∷ [] }
divide second (one ∷ more) = record { here = Done; around = record { second = second; rest = one.rest } ∷ more }

-- The same list with a statement before it.
abbrev pub before : Statement → Read → Read
before (If line register otherwise) read = choose line register read.here read.around
before (Else line after) read = divide read.here read.around
before (End line) read = record { here = Done; around = record { second = Done; rest = read.here } ∷ read.around }
before statement read = record { here = Step statement read.here; around = read.around }

abbrev pub read_of : List Statement → Read
read_of [] = record { here = Done; around = [] }
read_of (statement ∷ statements) = before statement (read_of statements)

-- The tree of a whole body.
abbrev pub tree_of : List Statement → Tree
tree_of statements = (read_of statements).here

-- What follows the parts around a place.
abbrev pub behind : List Around → Tree
behind [] = Done
behind (one ∷ more) = and_then one.rest (behind more)

-- What is left of a body from a place on, where these statements stand from there to its end: the rest of the part in which they begin,
-- and then what follows each `if` around it.
abbrev pub left_of : List Statement → Tree
left_of statements = and_then (read_of statements).here (behind (read_of statements).around)
