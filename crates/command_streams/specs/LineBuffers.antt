-- Lines that wait to be written.
use Rattle.std.specs.Prelude.{ℕ, List}

-- what waits, and how much of the room it takes
pub record Lines : Type 0 where
  pub text : List ℕ
  pub filled : ℕ

-- so many bytes of lines wait at most before they are written
abbrev pub most_held : ℕ
most_held = 65_536

-- behind so many there is room for one more line
abbrev pub most_filled : ℕ
most_filled = 65_440
