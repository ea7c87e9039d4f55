use Rattle.std.proofs.Common.{rules}
use Rattle.program_text.proofs.open_function.ending.Goals as goal

pub returns-in-If : goal.returns-in-If
returns-in-If c = search rules
