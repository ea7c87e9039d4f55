-- What a gate shows.
use Rattle.std.specs.Prelude.{ℕ, List, [], Bool, false, replicate}
use Rattle.model_histories.specs.Entries.{Entries}
use Rattle.model_histories.specs.Shapes.{Shape}

-- the shape and the limit that it was made with, whether it was stopped, the entries so far, the newest first, and the cells' values
pub record GateState : Type 0 where
  pub shape : Shape
  pub limit : ℕ
  pub stopped : Bool
  pub history : Entries
  pub memory : List ℕ

-- at first there are no entries, and 0 in each cell
abbrev pub opening : Shape → ℕ → GateState
opening shape limit = record { shape = shape; limit = limit; stopped = false; history = []; memory = replicate shape.cells 0 }
