-- What a reader held, and why reading stops.
use Rattle.std.specs.Prelude.{ℕ, Option, List}
use Rattle.command_streams.specs.declared.fault.CliFault.{CliFault}
use Rattle.command_streams.specs.Streams.{StopsReading}

-- what a reader held before and behind a command
pub record Reading : Type 0 where
  pub before : Option (List ℕ)
  pub behind : Option (List ℕ)

abbrev pub reading : (before behind : Option (List ℕ)) → Reading
reading before behind = record { before = before; behind = behind }

abbrev pub StopsReader : Reading → CliFault → Type 0
StopsReader reader fault = StopsReading reader.before reader.behind fault
