-- How many cells there may be.
use Rattle.std.specs.Prelude.{ℕ}

-- the most cells of a trace or a program, all arrays together
abbrev pub most_cells : ℕ
most_cells = 1_000_000
