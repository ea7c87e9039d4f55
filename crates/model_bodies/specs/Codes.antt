-- What a function of a program is.
use Rattle.std.specs.Prelude.{ℕ, List, Option, codes}
use Rattle.std.specs.List.{position_from}
use Rattle.std.specs.Str.{bytes_eq}
use Rattle.model_bodies.specs.declared.statement.Statement.{Statement}

-- A function: its name, its parameter, the lines of its `func` and its `end`, the names of its registers other than `ok`, and its
-- statements.
pub record Code : Type 0 where
  pub name : List ℕ
  pub parameter : List ℕ
  pub line : ℕ
  pub end_line : ℕ
  pub registers : List (List ℕ)
  pub body : List Statement

-- The number of the function `main`: a text names each function once, and this is the first of that name.
abbrev pub main_of : List Code → Option ℕ
main_of functions = position_from (λ code. bytes_eq code.name (codes "main")) 0 functions
