-- What a program declares, and the limits on it.
use Rattle.std.specs.Prelude.{◌<◌, ℕ, List, length}
use Rattle.model_reducers.specs.declared.monoid.Monoid.{Monoid}
use Rattle.model_accesses.specs.declared.request.Act.{Act}
use Rattle.model_accesses.specs.declared.request.Act.TheVariants.{Read, Write, Bump, Update, Put, Get}

-- how many cells there are, and the monoid of each reducer
pub record Shape : Type 0 where
  pub cells : ℕ
  pub monoids : List Monoid

-- the most entries of a history
abbrev pub most_entries : ℕ
most_entries = 1_000_000

-- the cell or reducer that the act names is there
abbrev pub IsInRange : Shape → Act → Type 0
IsInRange shape (Read location) = location < shape.cells
IsInRange shape (Write location value) = location < shape.cells
IsInRange shape (Bump location value) = location < shape.cells
IsInRange shape (Update reducer value) = reducer < length shape.monoids
IsInRange shape (Put reducer value) = reducer < length shape.monoids
IsInRange shape (Get reducer) = reducer < length shape.monoids
IsInRange shape act = Unit {0}
