use Rattle.std.proofs.Common.{rules}
use Rattle.program_lines.proofs.place.is_fresh.Goals as goal

pub returns-in-Some-function : goal.returns-in-Some-function
returns-in-Some-function g c = search rules

pub returns-in-Some : goal.returns-in-Some
returns-in-Some g c = search rules
