use Rattle.program_lines.proofs.Crowded.{crowded}
use Rattle.program_lines.proofs.laws.room_for_registers.Goals as goal

pub returns : goal.returns
returns c = λ scope ws f. (crowded scope ws f).4
