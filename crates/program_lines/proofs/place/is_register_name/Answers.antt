use Rattle.std.proofs.Common.{rules}
use Rattle.program_lines.proofs.place.is_register_name.Goals as goal

pub returns-then-is_name : goal.returns-then-is_name
returns-then-is_name c = search rules
