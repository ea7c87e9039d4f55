-- How many reducers there may be.
use Rattle.std.specs.Prelude.{ℕ}

-- the most reducers of a trace or a program
abbrev pub most_reducers : ℕ
most_reducers = 256
