use Rattle.std.proofs.Common.{refl}
use Rattle.program_text.proofs.program.Program.main.Goals as goal

pub returns-clause-value : goal.returns-clause-value
returns-clause-value g c = refl
