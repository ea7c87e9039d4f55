use Rattle.std.proofs.Common.{rules}
use Rattle.program_lines.proofs.place.element.Goals as goal

pub returns-in-Some-Array : goal.returns-in-Some-Array
returns-in-Some-Array g c = search rules

pub returns-in-Err : goal.returns-in-Err
returns-in-Err g c = search rules
